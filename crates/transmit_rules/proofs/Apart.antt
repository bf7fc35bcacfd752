-- The FIFO does not see what changes below its area, the receive side's bytes and words; while nothing is written it does not see its size. Assumes nothing.
use mathlib.Core.Path.{◌≡◌, refl, sym, ap, ap₂, ◌∙◌}
use mathlib.Core.Logic.{inr}
use mathlib.Core.List.{List, []}
use Prim.Native.Nat.{ℕ, zero, suc, ◌+◌, ◌*◌, ◌-◌, ◌≤◌}
use native.Mathlib.Omega.{arith}
use lib.ListN.{length, get_or}
use lib.Seq.{get_or-drop}
use Rattle.store.specs.declared.Area.{Area}
use Rattle.store.specs.Store.{Frame, frames, room_of, part, Kept}
use Rattle.store.proofs.Laws.{kept-part}
use Rattle.store.proofs.Lift.{apart-kept}
use Rattle.transmit_rules.specs.declared.Fifo.{Fifo}
use Rattle.transmit_rules.specs.Queue.{Part, no_part}
use Rattle.transmit_rules.specs.QueueView.{tx_area, part_of, queue_of, Packed}

-- below the area
abbrev below : ℕ → Area
below size = record { base = 0; size = 8192 - size; first = 0; slots = 768 }

module _ (size : ℕ) (f : Fifo) (ram dir ram' dir' : List ℕ) (kr : Kept 0 (8192 - size) ram ram') (kd : Kept 0 768 dir dir') where
  same-words : part 768 f.packets dir' ≡ part 768 f.packets dir
  same-words = kept-part dir dir' 0 768 768 f.packets kd (inr (omega arith))

  same_word : (i : ℕ) → get_or dir' (768 + i) 0 ≡ get_or dir (768 + i) 0
  same_word i = sym (get_or-drop 768 dir' i 0) ∙ ap (λ (l : List ℕ). get_or l i 0) kd.above ∙ get_or-drop 768 dir i 0

  same_bytes : (i n : ℕ) → part (8192 - size + i) n ram' ≡ part (8192 - size + i) n ram
  same_bytes i n = kept-part ram ram' 0 (8192 - size) (8192 - size + i) n kr (inr (omega arith))

  same-part : (k : ℕ) → part_of size f.packets k ram' dir' ≡ part_of size f.packets k ram dir
  unfolding part_of
  same-part zero = refl
  same-part (suc k) =
      ap₂ (λ (w : ℕ) (l : List ℕ). record { words = suc k; preamble = w; bytes = l }) (same_word f.packets)
      (ap (λ (d : List ℕ). part (8192 - size + room_of d) (2 * (suc k - 2)) ram') same-words ∙ same_bytes (room_of (part 768 f.packets dir)) (2 * (suc k - 2)))

  module _ (P : Packed size f ram dir) where
    both-kept : Packed size f ram' dir' × (queue_of size f ram' dir' ≡ queue_of size f ram dir)
    both-kept =
        let A = apart-kept (below size) (tx_area size) f.packets ram dir ram' dir' kr kd P (inr (omega arith)) (inr (omega arith)) in
        (A.0, ap₂ (λ (ps : List Frame) (p : Part). record { failed = f.failed; packets = ps; part = p }) A.1 (same-part f.words))

    pub packed-kept : Packed size f ram' dir'
    packed-kept = both-kept.0

    pub queue-kept : queue_of size f ram' dir' ≡ queue_of size f ram dir
    queue-kept = both-kept.1

-- ---- the same FIFO in another size, while nothing is written

-- nothing is written: the counts are 0
pub idle-packed : (size : ℕ) (f : Fifo) (ram dir : List ℕ) → f.packets ≡ 0 → size ≤ 4096 → 8192 ≤ length ram → 1110 ≤ length dir → Packed size f ram dir
unfolding room_of
idle-packed size f ram dir e s hr hd = record { in_ram = omega arith; in_dir = omega arith; few = omega arith; small = omega arith; room = rw e (omega arith) }

pub idle-queue : (size : ℕ) (f : Fifo) (ram dir : List ℕ) → f.packets ≡ 0 → f.words ≡ 0 → queue_of size f ram dir ≡ record { failed = f.failed; packets = []; part = no_part }
unfolding frames part_of
idle-queue size f ram dir e d = rw (e, d)
