-- Soundness of the transmit side: of its FIFO, and the test that a call makes, both ways. Assumes nothing.
use mathlib.Core.Path.{◌≡◌}
use mathlib.Core.Bool.{Bool, true, ◌&&◌}
use mathlib.Core.List.{List}
use Prim.Native.Nat.{ℕ, ◌≤◌}
use borrow.Author.Tests.{leb-true, le-leb}
use lib.Dec.{leb}
use lib.ListN.{length}
use Rattle.transmit_rules.specs.Queue.{Queue, free}
use Rattle.transmit_rules.specs.QueueSound.{orderly}
use Rattle.transmit_rules.specs.QueueView.{queue_of, Holds, sound_fifo}
use Rattle.bits.proofs.Tests.{both}
use Rattle.transmit_rules.proofs.QueueSound.{sound-holds, holds-sound}
use Rattle.transmit_rules.specs.Outcome.{filled, available_settled}
use Rattle.transmit_rules.specs.OutcomesView.{reports_of, sound_outcomes}
use Rattle.transmit_rules.specs.declared.Transmit.{Transmit}
use Rattle.transmit_rules.specs.Tx.{Tx, kept}
use Rattle.transmit_rules.specs.View.{tx_of, Sound, Unsettled, sound_side}
use Rattle.transmit_rules.proofs.Keeps.{kept-orderly, sound-kept}

-- ---- the FIFO of a sound side

pub unsettled_holds : (size : ℕ) (t : Transmit) (ram dir : List ℕ) → Unsettled size t ram dir → Holds size t.fifo ram dir
unsettled_holds size t ram dir U = record { small = U.small; packed = U.packed; calm = kept-orderly size (tx_of size t ram dir) U.calm }

pub sound_unsettled : (size : ℕ) (t : Transmit) (ram dir : List ℕ) → Sound size t ram dir → Unsettled size t ram dir
sound_unsettled size t ram dir S = record { small = S.small; packed = S.packed; stacked = S.stacked; calm = sound-kept size (tx_of size t ram dir) S.calm }

pub fifo_holds : (size : ℕ) (t : Transmit) (ram dir : List ℕ) → Sound size t ram dir → Holds size t.fifo ram dir
fifo_holds size t ram dir S = unsettled_holds size t ram dir (sound_unsettled size t ram dir S)

-- ---- the test of a call, both ways

module _ (size : ℕ) (t : Transmit) (ram dir : List ℕ) where
  pub side_sound : size ≤ 4096 → 8192 ≤ length ram → 1110 ≤ length dir → sound_side size t ram dir ≡ true → Sound size t ram dir
  unfolding sound_side sound_outcomes
  side_sound s hr hd h =
      let q : Queue = queue_of size t.fifo ram dir in
      let a : Bool = sound_fifo size t.fifo ram dir in
      let b : Bool = leb t.outcomes.statuses.count 31 in
      let f : Bool = filled (reports_of t.outcomes) in
      let v : Bool = available_settled (free size q) t.outcomes.sender in
      let p = both (a && (b && f)) v h in
      let r = both a (b && f) p.0 in
      let o = both b f r.1 in
      let H = sound-holds size t.fifo ram dir s hr hd r.0 in
      record { small = s; packed = H.packed; stacked = leb-true t.outcomes.statuses.count 31 o.0; calm = rw (H.calm, o.1, p.1) }

  pub sound_side_lem : Sound size t ram dir → sound_side size t ram dir ≡ true
  unfolding sound_side sound_outcomes
  sound_side_lem S =
      let x : Tx = tx_of size t ram dir in
      let p = both (kept size x) (available_settled (free size x.queue) x.reports.sender) S.calm in
      let r = both (orderly size x.queue) (filled x.reports) p.0 in
      rw (holds-sound size t.fifo ram dir (fifo_holds size t ram dir S), le-leb t.outcomes.statuses.count 31 S.stacked, r.1, p.1)
