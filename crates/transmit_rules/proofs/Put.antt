-- The ways through a word of the host's, over plain numbers and lists. Assumes nothing.
use mathlib.Core.Path.{◌≡◌, refl, sym, ap, ◌∙◌}
use mathlib.Core.Bool.{true, false}
use mathlib.Core.List.{List, [], ◌∷◌, ◌++◌}
use Prim.Native.Nat.{ℕ, suc, ◌+◌, ◌*◌, ◌-◌, ◌/◌, ◌%◌, ◌≤◌, ◌<◌}
use native.Mathlib.Numerals.{add-one}
use native.Mathlib.Omega.{arith}
use borrow.Author.Tests.{lt-ltb, le-ltb, eq-eqb, ne_eqb}
use lib.ListN.{length, take, drop, get_or, set, length-set, length-append}
use lib.Seq.{take-take, get_or-set_same}
use Rattle.store.specs.Store.{begun, len_of, round4, room_of, part, Kept}
use Rattle.store.proofs.Laws.{room-append, room-one, part_snoc, frames_snoc, kept_set}
use Rattle.transmit_rules.specs.Queue.{no_part, Queue, room, free}
use Rattle.transmit_rules.specs.Write.{sized, fails, with_part, opened, second, written, completed, put}
use Rattle.transmit_rules.specs.QueueView.{packets_of, part_of, queue_of, Packed, Holds, Turns}
use Rattle.transmit_rules.specs.declared.Fifo.{Fifo}
use Rattle.transmit_rules.proofs.Parts.{part_length, part-part, part-behind, part-two, frames-same}
use Rattle.transmit_rules.proofs.Facts.{facts, grows, words_of, part_of_lem, free_of}

-- ---- the definition, way by way

module _ (size v : ℕ) (q : Queue) where
  pub put-stays : q.failed ≡ true → put size v q ≡ q
  unfolding put
  put-stays f = rw f

  module _ (f : q.failed ≡ false) where
    pub put_full : free size q < 2 → put size v q ≡ fails q
    unfolding put
    put_full h = rw (lt-ltb (free size q) 2 h, f)

    pub put-bad : 2 ≤ free size q → q.part.words ≡ 0 → sized (len_of v) ≡ false → put size v q ≡ fails q
    unfolding put
    put-bad h e s = rw (le-ltb (free size q) 2 h, f, eq-eqb q.part.words 0 e, s)

    pub put-opens : 2 ≤ free size q → q.part.words ≡ 0 → sized (len_of v) ≡ true → put size v q ≡ with_part (opened v) q
    unfolding put
    put-opens h e s = rw (le-ltb (free size q) 2 h, f, eq-eqb q.part.words 0 e, s)

    pub put_second : 2 ≤ free size q → q.part.words ≡ 1 → put size v q ≡ with_part (second q.part) q
    unfolding put
    put_second h e = rw (le-ltb (free size q) 2 h, f, e)

    pub put_more : 2 ≤ free size q → 2 ≤ q.part.words → put size v q ≡ completed (with_part (written v q.part) q)
    unfolding put
    put_more h e = rw (le-ltb (free size q) 2 h, f, ne_eqb q.part.words 0 (λ z. omega arith), ne_eqb q.part.words 1 (λ z. omega arith))

pub same_kept : (i n : ℕ) (l : List ℕ) → Kept i n l l
same_kept i n l = record { below = refl; above = refl; long = refl }

-- the memory is as it was
pub turns_same : (size : ℕ) (f : Fifo) (ram dir : List ℕ) (q : Queue) → Packed size f ram dir → queue_of size f ram dir ≡ q → Turns size f ram dir ram dir q
turns_same size f ram dir q P e = record { holds = e; packed = P; ram_kept = same_kept (8192 - size) size ram; dir_kept = same_kept 768 342 dir }

-- ---- the words of the preamble

module _ (size v : ℕ) (f : Fifo) (ram dir : List ℕ) (H : Holds size f ram dir) (ok : f.failed ≡ false) where
  pub opens : 2 ≤ free size (queue_of size f ram dir) → f.words ≡ 0 → sized (len_of v) ≡ true
      → Turns size (record { failed = false; packets = f.packets; words = 1 }) ram dir ram (set dir (768 + f.packets) v) (put size v (queue_of size f ram dir))
  unfolding part_of
  opens room z s =
      let F = facts size f ram dir H in
      let S = H.packed in
      let e : part 768 f.packets (set dir (768 + f.packets) v) ≡ part 768 f.packets dir = part-behind dir 768 f.packets (768 + f.packets) v (omega arith) in
      let dirs : 768 + 342 ≤ length dir = S.in_dir in
      let g : get_or (set dir (768 + f.packets) v) (768 + f.packets) 0 ≡ v = get_or-set_same dir (768 + f.packets) v 0 (omega (arith, F.place)) in
      let q : Queue = queue_of size f ram dir in
      record {
        holds = rw (put-opens size v q ok room (words_of size f.packets f.words ram dir ∙ z) s, e, g, ok);
        packed = record { in_ram = S.in_ram; in_dir = rw length-set S.in_dir; few = S.few; small = S.small; room = rw e S.room };
        ram_kept = same_kept (8192 - size) size ram;
        dir_kept = kept_set dir 768 342 (768 + f.packets) v (omega arith) (omega (arith, F.place));
      }

  pub seconds : 2 ≤ free size (queue_of size f ram dir) → f.words ≡ 1
      → Turns size (record { failed = false; packets = f.packets; words = 2 }) ram dir ram dir (put size v (queue_of size f ram dir))
  unfolding part_of
  seconds room z =
      let q : Queue = queue_of size f ram dir in
      let p = put_second size v q ok room (words_of size f.packets f.words ram dir ∙ z) in
      turns_same size (record { failed = false; packets = f.packets; words = 2 }) ram dir _ H.packed (rw (p, ok, z))

-- ---- a word of data

pub completes : (q : Queue) → length q.part.bytes ≡ round4 (len_of q.part.preamble)
    → completed q ≡ record { failed = q.failed; packets = q.packets ++ (begun (q.part.preamble / 2048) (take (len_of q.part.preamble) q.part.bytes) ∷ []); part = no_part }
unfolding completed
completes q e = rw (eq-eqb (length q.part.bytes) (round4 (len_of q.part.preamble)) e)

pub goes_on_lem : (q : Queue) → (length q.part.bytes ≡ round4 (len_of q.part.preamble) → ⊥) → completed q ≡ q
unfolding completed
goes_on_lem q e = rw (ne_eqb (length q.part.bytes) (round4 (len_of q.part.preamble)) e)

module _ (size v at : ℕ) (f : Fifo) (ram dir : List ℕ) (H : Holds size f ram dir) (some : 2 ≤ f.words)
    (fits : 2 ≤ free size (queue_of size f ram dir)) (here : at ≡ 8192 - size + room_of (part 768 f.packets dir) + 2 * (f.words - 2)) where
  -- what the code asks of the memory
  pub record Room : Type 0 where
    pub sum : room_of (part 768 f.packets dir) + 4 * f.packets + 2 * f.words + 2 ≤ size
    pub low : 8192 - size ≤ at
    pub high : at + 1 < 8192 - size + size
    pub in_ram : 8192 - size + size ≤ length ram

  pub room-left : Room
  room-left =
      let F = facts size f ram dir H in
      let sum : room_of (part 768 f.packets dir) + 4 * f.packets + 2 * f.words + 2 ≤ size = omega (arith, free_of size f ram dir H.packed, F.space) in
      record { sum = sum; low = omega arith; high = omega arith; in_ram = H.packed.in_ram }

  after : List ℕ
  after = set (set ram at (v % 256)) (at + 1) (v / 256)

  same-part : (j k : ℕ) → j + k ≤ at → part j k after ≡ part j k ram
  unfolding after
  same-part j k h = part-behind (set ram at (v % 256)) j k (at + 1) (v / 256) (omega arith) ∙ part-behind ram j k at (v % 256) h

  same-packets : packets_of size f.packets after dir ≡ packets_of size f.packets ram dir
  same-packets =
      let r : ℕ = room_of (part 768 f.packets dir) in
      let R = room-left in
      frames-same (part 768 f.packets dir) (part (8192 - size) size after) (part (8192 - size) size ram) r (omega arith)
      (take-take r size (drop (8192 - size) after) (omega (arith, R.sum)) ∙ same-part (8192 - size) r (omega arith) ∙ sym (take-take r size (drop (8192 - size) ram) (omega (arith, R.sum))))

  bytes : List ℕ
  bytes = part (8192 - size + room_of (part 768 f.packets dir)) (2 * (f.words - 2)) ram

  new_bytes : part (8192 - size + room_of (part 768 f.packets dir)) (2 * (f.words - 2) + 2) after ≡ bytes ++ (v % 256 ∷ v / 256 ∷ [])
  unfolding after bytes
  new_bytes = part-two ram (8192 - size + room_of (part 768 f.packets dir)) (2 * (f.words - 2)) at (v % 256) (v / 256) here (omega (arith, room-left.high, room-left.in_ram))

  new_length : length (bytes ++ (v % 256 ∷ v / 256 ∷ [])) ≡ 2 * f.words - 2
  unfolding bytes
  new_length =
      let e : length (part (8192 - size + room_of (part 768 f.packets dir)) (2 * (f.words - 2)) ram) ≡ 2 * (f.words - 2) =
      part_length ram (8192 - size + room_of (part 768 f.packets dir)) (2 * (f.words - 2)) (omega (arith, room-left.high, room-left.in_ram)) in
      length-append bytes (v % 256 ∷ v / 256 ∷ []) ∙ omega arith

  kept-ram : Kept (8192 - size) size ram after
  unfolding after
  kept-ram =
      let R = room-left in
      let a = kept_set ram (8192 - size) size at (v % 256) R.low (omega (arith, R.high)) in
      let b = kept_set (set ram at (v % 256)) (8192 - size) size (at + 1) (v / 256) (omega (arith, R.low)) R.high in
      record { below = b.below ∙ a.below; above = b.above ∙ a.above; long = b.long ∙ a.long }

  w : ℕ
  w = get_or dir (768 + f.packets) 0

  -- the queue that the definition completes
  q : Queue
  q = record { failed = f.failed; packets = packets_of size f.packets ram dir; part = record { words = f.words + 1; preamble = get_or dir (768 + f.packets) 0; bytes = bytes ++ (v % 256 ∷ v / 256 ∷ []) } }

  told : with_part (written v (queue_of size f ram dir).part) (queue_of size f ram dir) ≡ q
  unfolding q bytes
  told = rw (part_of_lem size f.packets f.words ram dir (omega arith))

  pub data_whole : 2 * f.words ≡ round4 (len_of (get_or dir (768 + f.packets) 0)) + 2
      → Turns size (record { failed = f.failed; packets = f.packets + 1; words = 0 }) ram dir (set (set ram at (v % 256)) (at + 1) (v / 256)) dir
      (completed (with_part (written v (queue_of size f ram dir).part) (queue_of size f ram dir)))
  unfolding after w q part_of
  data_whole e =
      let F = facts size f ram dir H in
      let G = grows size f ram dir H (omega arith) in
      let R = room-left in
      let S = H.packed in
      let dirs : 768 + 342 ≤ length dir = S.in_dir in
      let ws : List ℕ = part 768 f.packets dir in
      let one : f.packets + 1 ≡ suc f.packets = add-one f.packets in
      let snoc : part 768 (f.packets + 1) dir ≡ ws ++ (w ∷ []) = rw one (part_snoc dir 768 f.packets (omega (arith, F.place))) in
      let m : List ℕ = part (8192 - size) size after in
      let j : 2 * (f.words - 2) + 2 ≡ round4 (len_of w) = omega arith in
      let own : take (len_of w) (drop (room_of ws) m) ≡ take (len_of w) (bytes ++ (v % 256 ∷ v / 256 ∷ [])) =
      part-part after (8192 - size) size (room_of ws) (len_of w) (omega (arith, R.sum))
      ∙ sym (take-take (len_of w) (round4 (len_of w)) (drop (8192 - size + room_of ws) after) (omega arith))
      ∙ ap (λ (i : ℕ). take (len_of w) (part (8192 - size + room_of ws) i after)) (sym j)
      ∙ ap (λ (l : List ℕ). take (len_of w) l) new_bytes in
      record {
        holds = rw (told, completes q (new_length ∙ omega arith), snoc, frames_snoc ws w m, own, same-packets);
        packed = record {
          in_ram = rw (length-set, length-set) S.in_ram;
          in_dir = S.in_dir;
          few = omega (arith, F.place);
          small = S.small;
          room = rw (snoc, room-append, room-one) (omega (arith, R.sum));
        };
        ram_kept = kept-ram;
        dir_kept = same_kept 768 342 dir;
      }

  pub data_more : (2 * f.words ≡ round4 (len_of (get_or dir (768 + f.packets) 0)) + 2 → ⊥)
      → Turns size (record { failed = f.failed; packets = f.packets; words = f.words + 1 }) ram dir (set (set ram at (v % 256)) (at + 1) (v / 256)) dir
      (completed (with_part (written v (queue_of size f ram dir).part) (queue_of size f ram dir)))
  unfolding after q
  data_more e =
      let S = H.packed in
      let j : 2 * (f.words + 1 - 2) ≡ 2 * (f.words - 2) + 2 = omega arith in
      record {
        holds = rw (told, goes_on_lem q (λ z. e (omega (arith, new_length, z))), part_of_lem size f.packets (f.words + 1) after dir (omega arith), j, new_bytes, same-packets);
        packed = record { in_ram = rw (length-set, length-set) S.in_ram; in_dir = S.in_dir; few = S.few; small = S.small; room = S.room };
        ram_kept = kept-ram;
        dir_kept = same_kept 768 342 dir;
      }
