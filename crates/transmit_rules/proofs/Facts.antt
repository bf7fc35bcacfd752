-- A sound queue, as facts of numbers. Assumes nothing.
use mathlib.Core.Path.{◌≡◌, refl}
use mathlib.Core.Bool.{Bool, true, false, ◌&&◌, ◌||◌}
use mathlib.Core.List.{List}
use Prim.Native.Nat.{ℕ, zero, suc, ◌+◌, ◌*◌, ◌-◌, ◌≤◌, ◌<◌}
use native.Mathlib.Omega.{arith}
use borrow.Author.Tests.{leb-true, ltb-true, ne_eqb}
use lib.Dec.{leb, ltb, eqb}
use lib.ListN.{length, get_or}
use Rattle.store.specs.Store as store
use Rattle.store.specs.Store.{len_of, round4, room_of, part}
use Rattle.transmit_rules.specs.Queue.{room, free}
use Rattle.transmit_rules.specs.Write.{sized}
use Rattle.transmit_rules.specs.QueueSound.{all_sized, growing}
use Rattle.transmit_rules.specs.QueueView.{tx_area, packets_of, growth, part_of, queue_of, Holds}
use Rattle.transmit_rules.specs.declared.Fifo.{Fifo}
use Rattle.bits.proofs.Tests.{both}
use Rattle.transmit_rules.proofs.Parts.{part_length, room-words, least}

pub words_of : (size n k : ℕ) (ram dir : List ℕ) → (part_of size n k ram dir).words ≡ k
unfolding part_of
words_of size n zero ram dir = refl
words_of size n (suc k) ram dir = refl

pub part_of_lem : (size n k : ℕ) (ram dir : List ℕ) → 0 < k → part_of size n k ram dir ≡ growth size n k ram dir
unfolding part_of
part_of_lem size n zero ram dir h = absurd (omega arith)
part_of_lem size n (suc k) ram dir h = refl

pub room_of_lem : (size n : ℕ) (ram dir : List ℕ) → store.Sound (tx_area size) n ram dir → room (packets_of size n ram dir) ≡ room_of (part 768 n dir) + 4 * n
room_of_lem size n ram dir S =
    let e : length (part 768 n dir) ≡ n = part_length dir 768 n (omega arith) in
    let len : length (part (8192 - size) size ram) ≡ size = part_length ram (8192 - size) size S.in_ram in
    rw e at (room-words (part 768 n dir) (part (8192 - size) size ram) (omega arith))

pub free_of : (size : ℕ) (f : Fifo) (ram dir : List ℕ) → store.Sound (tx_area size) f.packets ram dir
    → free size (queue_of size f ram dir) ≡ size - (room_of (part 768 f.packets dir) + 4 * f.packets + 2 * f.words)
unfolding free
free_of size f ram dir S = rw (room_of_lem size f.packets ram dir S, words_of size f.packets f.words ram dir)

-- the packet being written: w is its first word
pub record Grows (k w : ℕ) : Type 0 where
  pub long : 6 ≤ len_of w
  pub short : len_of w ≤ 1792
  pub less : 2 * k < 4 + round4 (len_of w)

pub record Facts (size n k : ℕ) (dir : List ℕ) : Type 0 where
  pub space : room_of (part 768 n dir) + 4 * n + 2 * k ≤ size
  pub place : n < 342
  pub few : k ≤ 2048

grown : (size n k : ℕ) (ram dir : List ℕ) → 0 < k → growing (part_of size n k ram dir) ≡ true → Grows k (get_or dir (768 + n) 0)
unfolding part_of
grown size n zero ram dir h g = absurd (omega arith)
grown size n (suc k) ram dir h g =
    let w : ℕ = get_or dir (768 + n) 0 in
    let t : Bool = sized (len_of w) && ltb (2 * suc k) (4 + round4 (len_of w)) in
    let o = both (eqb (length (growth size n (suc k) ram dir).bytes) (2 * (suc k - 2))) (eqb (suc k) 0 || t) g in
    let p = both (sized (len_of w)) (ltb (2 * suc k) (4 + round4 (len_of w))) (rw (ne_eqb (suc k) 0 (λ z. omega arith)) at o.1) in
    let q = both (leb 6 (len_of w)) (leb (len_of w) 1792) p.0 in
    record { long = leb-true _ _ q.0; short = leb-true _ _ q.1; less = ltb-true _ _ p.1 }

module _ (size : ℕ) (f : Fifo) (ram dir : List ℕ) (H : Holds size f ram dir) where
  halves : (leb (room (packets_of size f.packets ram dir) + 2 * (part_of size f.packets f.words ram dir).words) size ≡ true)
      × (all_sized (packets_of size f.packets ram dir) ≡ true) × (growing (part_of size f.packets f.words ram dir) ≡ true)
  halves =
      let a : Bool = leb (room (packets_of size f.packets ram dir) + 2 * (part_of size f.packets f.words ram dir).words) size in
      let b : Bool = all_sized (packets_of size f.packets ram dir) in
      let p = both (a && b) (growing (part_of size f.packets f.words ram dir)) H.calm in
      let q = both a b p.0 in
      (q.0, q.1, p.1)

  pub facts : Facts size f.packets f.words dir
  facts =
      let n : ℕ = f.packets in
      let S = H.packed in
      let few : n ≤ 342 = S.few in
      let dirs : 768 + 342 ≤ length dir = S.in_dir in
      let e : length (part 768 n dir) ≡ n = part_length dir 768 n (omega arith) in
      let len : length (part (8192 - size) size ram) ≡ size = part_length ram (8192 - size) size S.in_ram in
      let space : room_of (part 768 n dir) + 4 * n + 2 * f.words ≤ size =
      omega (arith, rw (room_of_lem size n ram dir S, words_of size n f.words ram dir) at (leb-true (room (packets_of size n ram dir) + 2 * (part_of size n f.words ram dir).words) size halves.0)) in
      let l : 8 * n ≤ room_of (part 768 n dir) = rw e at (least (part 768 n dir) (part (8192 - size) size ram) (omega arith) halves.1) in
      let small : size ≤ 4096 = H.small in
      record { space = space; place = omega arith; few = omega arith }

  pub sizes : all_sized (packets_of size f.packets ram dir) ≡ true
  sizes = halves.1

  pub grows : 0 < f.words → Grows f.words (get_or dir (768 + f.packets) 0)
  grows h = grown size f.packets f.words ram dir h halves.2

-- a FIFO with nothing in it
pub empty_fifo : (f : Fifo) → (f.failed ≡ false) × ((f.packets ≡ 0) × (f.words ≡ 0)) → f ≡ record { failed = false; packets = 0; words = 0 }
empty_fifo f e = λ i. record { failed = e.0 i; packets = e.1.0 i; words = e.1.1 i }
