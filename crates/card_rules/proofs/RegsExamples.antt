-- Worked numbers of document 01's section "Registers", computed from the definitions. Assumes nothing.
use mathlib.Core.Path.{◌≡◌, refl}
use mathlib.Core.Bool.{Bool, true, false}
use mathlib.Core.List.{[]}
use Prim.Native.Nat.{ℕ}
use Rattle.port_rules.specs.Sound.{id_sound}
use Rattle.receive_rules.specs.Frame.{room}
use Rattle.receive_rules.specs.Update.{with_failed, with_receiver}
use Rattle.receive_rules.specs.Reading.{complete, readable}
use Rattle.receive_rules.specs.Early.{early_flag, told_flag}
use Rattle.receive_rules.specs.Sound.{in_order, early_settled}
use Rattle.transmit_rules.specs.Queue as queue
use Rattle.transmit_rules.specs.QueueSound.{all_sized}
use Rattle.transmit_rules.specs.Outcome.{some, due}
use Rattle.card_rules.specs.Adapter.{Adapter}
use Rattle.card_rules.specs.Update.{with_id, with_select, with_rx, id_due}
use Rattle.card_rules.specs.Room.{tx_size, rx_size}
use Rattle.card_rules.specs.Status.{interrupting, status_of, status_word}
use Rattle.card_rules.specs.Settle.{settle}
use Rattle.card_rules.specs.Power.{power_on}
use Rattle.card_rules.specs.Sound.{select_sound, sound}

-- ---- power-on

-- the three thresholds are 2,044
early_2044 : (power_on [] 0).rx.receiver.threshold ≡ 2044
unfolding power_on
early_2044 = refl

available_2044 : (power_on [] 0).tx.reports.sender.level ≡ 2044
unfolding power_on
available_2044 = refl

start_2044 : (power_on [] 0).tx.reports.sender.start ≡ 2044
unfolding power_on
start_2044 = refl

-- ---- the split: 0 is 3,072:5,120; 1 is 2,048:6,144; 2 is 4,096:4,096; 3 acts as 0

split_0 : tx_size 0 ≡ 3072
unfolding tx_size
split_0 = refl

split_1 : tx_size 1 ≡ 2048
unfolding tx_size
split_1 = refl

split_2 : tx_size 2 ≡ 4096
unfolding tx_size
split_2 = refl

split_3 : tx_size 3 ≡ 3072
unfolding tx_size
split_3 = refl

-- ---- the latch

-- a receive failure stands; the interrupt mask, and the Read Zero mask
failing : ℕ → ℕ → Adapter
failing mask visible =
    let a = power_on [] 0 in
    let failed = with_receiver (with_failed true a.rx.receiver) a.rx in
    with_select (record { window = 1; mask = mask; zero = visible; filter = 0 }) (with_rx failed a)

latched : ℕ → ℕ → Bool
latched mask visible = (settle (failing mask visible)).lines.latch

-- Adapter Failure sets it if its bit is in the interrupt mask and visible
in_the_mask : latched 0x02 0x02 ≡ true
unfolding latched failing settle interrupting power_on early_flag told_flag due queue.free queue.room tx_size some complete
in_the_mask = refl

masked : latched 0xFC 0xFE ≡ false
unfolding latched failing settle interrupting power_on early_flag told_flag due queue.free queue.room tx_size some complete
masked = refl

hidden : latched 0xFE 0xFC ≡ false
unfolding latched failing settle interrupting power_on early_flag told_flag due queue.free queue.room tx_size some complete
hidden = refl

-- Status in window 1 with Adapter Failure and the latch
status : status_word (settle (failing 0x02 0x02)) ≡ 0x2003
unfolding failing settle interrupting status_of power_on early_flag told_flag due queue.free queue.room tx_size some complete
status = refl

-- ---- soundness

-- a power-on card, with a reset that is due or not
resetting : Bool → Adapter
resetting v = let a = power_on [] 0 in with_id (id_due v a.id) a

none-due : sound (resetting false) ≡ true
unfolding resetting power_on id_sound select_sound interrupting in_order early_settled readable room all_sized due queue.free queue.room tx_size rx_size some complete
none-due = refl

reset-due : sound (resetting true) ≡ false
unfolding resetting power_on id_sound select_sound interrupting in_order early_settled readable room all_sized due queue.free queue.room tx_size rx_size some complete
reset-due = refl
