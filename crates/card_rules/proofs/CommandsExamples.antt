-- Commands, computed. Assumes nothing.
use mathlib.Core.Path.{◌≡◌, refl}
use mathlib.Core.Bool.{true, false}
use mathlib.Core.List.{[]}
use Rattle.transmit_rules.specs.Queue.{no_part}
use Rattle.transmit_rules.specs.Tx as tx
use Rattle.card_rules.specs.Adapter.{Adapter}
use Rattle.card_rules.specs.Update.{with_tx}
use Rattle.card_rules.specs.Power.{power_on}
use Rattle.card_rules.specs.Command.{rx_reset, tx_reset, mask, act, command, commanded}

-- At power-on window 0 is selected: RX Enable does nothing, Select Window acts.
not_enabled : (commanded 0x2000 (power_on [] 0)).rx.receiver.on ≡ false
unfolding commanded command act power_on
not_enabled = refl

selected : (commanded 0x0801 (power_on [] 0)).select.window ≡ 1
unfolding commanded command act power_on
selected = refl

-- in window 1 RX Enable acts
enabled : (commanded 0x2000 (commanded 0x0801 (power_on [] 0))).rx.receiver.on ≡ true
unfolding commanded command act power_on
enabled = refl

-- of an argument of ones a mask takes bits 1 to 7
ones : mask 0x7FF ≡ 0xFE
ones = refl

-- The two kinds of failure clear apart: RX Reset leaves a transmit failure, TX Reset clears it.
failing : Adapter
failing = let a = power_on [] 0 in with_tx (tx.with_queue (record { failed = true; packets = []; part = no_part }) a.tx) a

tx-failure-stays : (rx_reset failing).tx.queue.failed ≡ true
unfolding failing power_on
tx-failure-stays = refl

tx_failure_clears : (tx_reset failing).tx.queue.failed ≡ false
unfolding failing tx.tx_reset power_on
tx_failure_clears = refl
