-- Every effect keeps the transmit side sound but for TX Available, and settle makes it sound: over the definitions alone. Assumes nothing.
use mathlib.Core.Path.{◌≡◌, refl, ap}
use mathlib.Core.Bool.{Bool, true}
use mathlib.Core.List.{[]}
use Prim.Native.Nat.{ℕ}
use Rattle.transmit_rules.specs.Queue.{no_part, free}
use Rattle.transmit_rules.specs.Leave.{leave, oldest_wanted}
use Rattle.transmit_rules.specs.QueueSound.{orderly}
use Rattle.bits.proofs.Tests.{both, join}
use Rattle.transmit_rules.proofs.QueueKeeps.{put_keeps, leave-keeps, none-orderly, empty-orderly}
use Rattle.transmit_rules.specs.Reports.{Reports}
use Rattle.transmit_rules.specs.Outcome.{succeeded, collided, reset, acknowledge, filled, available_settled}
use Rattle.transmit_rules.proofs.OutcomesKeeps as outcome
use Rattle.transmit_rules.specs.Tx.{Tx, with_reports, on_reports, tx_empty, write_data, success, collisions, tx_reset, settle, kept, sound}

pub kept-orderly : (size : ℕ) (x : Tx) → kept size x ≡ true → orderly size x.queue ≡ true
kept-orderly size x h = (both (orderly size x.queue) (filled x.reports) h).0

pub kept-filled : (size : ℕ) (x : Tx) → kept size x ≡ true → filled x.reports ≡ true
kept-filled size x h = (both (orderly size x.queue) (filled x.reports) h).1

pub kept_of : (size : ℕ) (x : Tx) → orderly size x.queue ≡ true → filled x.reports ≡ true → kept size x ≡ true
kept_of size x o f = join (orderly size x.queue) (filled x.reports) o f

pub sound-kept : (size : ℕ) (x : Tx) → sound size x ≡ true → kept size x ≡ true
sound-kept size x h = (both (kept size x) (available_settled (free size x.queue) x.reports.sender) h).0

-- ---- every effect

pub write_kept : (size v : ℕ) (x : Tx) → kept size x ≡ true → kept size (write_data size v x) ≡ true
write_kept size v x h = kept_of size (write_data size v x) (put_keeps size v x.queue (kept-orderly size x h)) (kept-filled size x h)

pub success-kept : (size : ℕ) (x : Tx) → kept size x ≡ true → kept size (success x) ≡ true
unfolding success
success-kept size x h =
    join (orderly size (leave x.queue)) (filled (succeeded (oldest_wanted x.queue.packets) x.reports))
    (leave-keeps size x.queue (kept-orderly size x h)) (outcome.succeeded-keeps (oldest_wanted x.queue.packets) x.reports (kept-filled size x h))

pub collisions-kept : (size : ℕ) (x : Tx) → kept size x ≡ true → kept size (collisions x) ≡ true
unfolding collisions
collisions-kept size x h =
    join (orderly size (leave x.queue)) (filled (collided (oldest_wanted x.queue.packets) x.reports))
    (leave-keeps size x.queue (kept-orderly size x h)) (outcome.collided-keeps (oldest_wanted x.queue.packets) x.reports (kept-filled size x h))

pub reset-kept : (size : ℕ) (x : Tx) → kept size x ≡ true → kept size (tx_reset x) ≡ true
unfolding tx_reset
reset-kept size x h = join _ (filled (reset x.reports)) (empty-orderly size) (outcome.reset-keeps x.reports (kept-filled size x h))

-- an effect on the reports alone
pub reports-kept : (g : Reports → Reports) → ((r : Reports) → filled r ≡ true → filled (g r) ≡ true) → (size : ℕ) (x : Tx) → kept size x ≡ true → kept size (on_reports g x) ≡ true
reports-kept g k size x h = kept_of size (on_reports g x) (kept-orderly size x h) (k x.reports (kept-filled size x h))

pub acknowledge-kept : (named : Bool) (size : ℕ) (x : Tx) → kept size x ≡ true → kept size (on_reports (acknowledge named) x) ≡ true
acknowledge-kept named = reports-kept (acknowledge named) (outcome.acknowledge-keeps named)

-- nothing is written: any size will do
pub none_kept : (size : ℕ) (x : Tx) → x.queue.packets ≡ [] → x.queue.part ≡ no_part → filled x.reports ≡ true → kept size x ≡ true
none_kept size x p e f = kept_of size x (none-orderly size x.queue p e) f

-- ---- settle

pub settle-sound : (size : ℕ) (x : Tx) → kept size x ≡ true → sound size (settle size x) ≡ true
settle-sound size x h = join (kept size (settle size x)) _ h (outcome.settle_settles (free size x.queue) x.reports)

-- a sound side stays as it is
pub settle-stays : (size : ℕ) (x : Tx) → sound size x ≡ true → settle size x ≡ x
settle-stays size x h =
    let p = both (kept size x) (available_settled (free size x.queue) x.reports.sender) h in
    ap (λ (r : Reports). with_reports r x) (outcome.settle-stays (free size x.queue) x.reports p.1)

-- power-on, in any size
pub power_on_sound : (size : ℕ) → sound size tx_empty ≡ true
power_on_sound size = join (kept size tx_empty) _ (none_kept size tx_empty refl refl refl) (outcome.power_on_settled (free size tx_empty.queue))
