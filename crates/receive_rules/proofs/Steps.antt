-- From what is known of the frames and of the memory to the step of the receive side. Assumes nothing.
use mathlib.Core.Path.{◌≡◌, refl, ap, ◌∙◌}
use mathlib.Core.Logic.{inl}
use mathlib.Core.Bool.{true}
use mathlib.Core.List.{List, map}
use Prim.Native.Nat.{ℕ, ◌≤◌}
use native.Mathlib.Omega.{arith}
use Rattle.store.specs.Store as store
use Rattle.store.specs.declared.Area.{Area}
use Rattle.store.proofs.Lift.{apart-kept}
use Rattle.receive_rules.specs.declared.Receive.{Receive}
use Rattle.receive_rules.specs.Frame.{Frame, Rx}
use Rattle.receive_rules.specs.Sound.{sound}
use Rattle.receive_rules.specs.View.{told, rx_area, rx_of, Packed, Sound, Turns, Step}
use Rattle.receive_rules.proofs.Oldest.{none as empty}

same_kept : (i n : ℕ) (l : List ℕ) → store.Kept i n l l
same_kept i n l = record { below = refl; above = refl; long = refl }

-- the memory is as it was
pub step_same : (size : ℕ) (r : Receive) (ram dir : List ℕ) (x : Rx) → Packed size r ram dir → rx_of size r ram dir ≡ x → Step size r ram dir ram dir x
step_same size r ram dir x P e = record { shows = e; packed = P; ram_kept = same_kept 0 size ram; dir_kept = same_kept 0 768 dir }

-- the frames have turned to fs, and the registers to those of r
pub step-turns : (size : ℕ) (r : Receive) (ram dir ram' dir' : List ℕ) (fs : List Frame) (x : Rx) → Turns size ram dir ram' dir' r.frames fs
    → record { receiver = r.receiver; frames = fs } ≡ x → Step size r ram dir ram' dir' x
step-turns size r ram dir ram' dir' fs x T e = record {
  shows = ap (λ (l : List Frame). record { receiver = r.receiver; frames = l }) T.holds ∙ e;
  packed = T.packed;
  ram_kept = T.ram_kept;
  dir_kept = T.dir_kept;
}

-- a step to what is sound ends sound
pub step-sound : (size : ℕ) (r : Receive) (ram dir ram' dir' : List ℕ) (x : Rx) → size ≤ 6144 → Step size r ram dir ram' dir' x → sound size x ≡ true
    → Sound size r ram' dir'
step-sound size r ram dir ram' dir' x small A s = record { small = small; packed = A.packed; calm = ap (λ (y : Rx). sound size y) A.shows ∙ s }

-- ---- a change outside the receiver's area, as the transmit side makes it: its first byte and its first word are the next
module _ (size m k : ℕ) (r : Receive) (ram dir ram' dir' : List ℕ) (R : store.Kept size m ram ram') (D : store.Kept 768 k dir dir') where
  both : Packed size r ram dir → Packed size r ram' dir' × (rx_of size r ram' dir' ≡ rx_of size r ram dir)
  both P =
      let other : Area = record { base = size; size = m; first = 768; slots = k } in
      let e = apart-kept other (rx_area size) r.frames ram dir ram' dir' R D P (inl (omega arith)) (inl (omega arith)) in
      (e.0, ap (λ (l : List store.Frame). record { receiver = r.receiver; frames = map told l }) e.1)

  pub apart-packed : Packed size r ram dir → Packed size r ram' dir'
  apart-packed P = (both P).0

  pub apart-same : Packed size r ram dir → rx_of size r ram' dir' ≡ rx_of size r ram dir
  apart-same P = (both P).1

-- ---- the RAM is split anew while nothing is stored

module _ (size other : ℕ) (r : Receive) (ram dir : List ℕ) (none : r.frames ≡ 0) where
  pub resized_same : rx_of other r ram dir ≡ rx_of size r ram dir
  resized_same = rw (empty other r.frames ram dir none, empty size r.frames ram dir none)
