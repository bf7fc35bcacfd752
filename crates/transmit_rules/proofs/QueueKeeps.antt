-- A word written and a packet that leaves keep the FIFO sound: over the definitions alone. Assumes nothing.
use mathlib.Core.Path.{◌≡◌, refl, ap, ◌∙◌}
use mathlib.Core.Bool.{Bool, true, false, ◌&&◌, ◌||◌, or-true}
use mathlib.Core.List.{List, [], ◌∷◌, ◌++◌}
use Prim.Native.Nat.{ℕ, ◌+◌, ◌*◌, ◌-◌, ◌/◌, ◌%◌, ◌≤◌, ◌<◌}
use native.Mathlib.Omega.{arith}
use borrow.Author.Tests.{leb-true, ltb-true, ltb-false, eqb-true, eqb-false, le-leb, lt-ltb, eq-eqb, ne_eqb}
use lib.Dec.{leb, ltb, eqb}
use lib.ListN.{length, take, length-append}
use lib.Seq.{length-take-le}
use Rattle.store.specs.Store.{Frame, begun, len_of, round4}
use Rattle.transmit_rules.specs.Queue.{Part, no_part, Queue, empty, room, free}
use Rattle.transmit_rules.specs.Write.{sized, fails, with_part, opened, second, written, completed, put}
use Rattle.transmit_rules.specs.Leave.{others, leave}
use Rattle.transmit_rules.specs.QueueSound.{all_sized, orderly}
use Rattle.bits.proofs.Tests.{by_test, both}
use Rattle.transmit_rules.proofs.Facts.{Grows}
use Rattle.transmit_rules.proofs.Put.{put-stays, put_full, put-bad, put-opens, put_second, put_more, completes, goes_on_lem}

-- ---- a sound queue, as facts, both ways

pub grown : Part → Bool
grown p = eqb p.words 0 || sized (len_of p.preamble) && ltb (2 * p.words) (4 + round4 (len_of p.preamble))

pub record Orderly (size : ℕ) (q : Queue) : Type 0 where
  pub space : room q.packets + 2 * q.part.words ≤ size
  pub sizes : all_sized q.packets ≡ true
  pub bytes : length q.part.bytes ≡ 2 * (q.part.words - 2)
  pub grow : grown q.part ≡ true

pub told : (size : ℕ) (q : Queue) → orderly size q ≡ true → Orderly size q
unfolding grown
told size q h =
    let a : Bool = leb (room q.packets + 2 * q.part.words) size in
    let b : Bool = eqb (length q.part.bytes) (2 * (q.part.words - 2)) in
    let p = both (a && all_sized q.packets) (b && grown q.part) h in
    let r = both a (all_sized q.packets) p.0 in
    let t = both b (grown q.part) p.1 in
    record { space = leb-true (room q.packets + 2 * q.part.words) size r.0; sizes = r.1; bytes = eqb-true (length q.part.bytes) (2 * (q.part.words - 2)) t.0; grow = t.1 }

pub shown : (size : ℕ) (q : Queue) → Orderly size q → orderly size q ≡ true
unfolding grown
shown size q O = rw (O.grow, le-leb _ _ O.space, O.sizes, eq-eqb _ _ O.bytes)

grow_told : (p : Part) → 0 < p.words → grown p ≡ true → Grows p.words p.preamble
unfolding grown
grow_told p h g =
    let a : Bool = sized (len_of p.preamble) in
    let b : Bool = ltb (2 * p.words) (4 + round4 (len_of p.preamble)) in
    let o = both a b (rw (ne_eqb p.words 0 (λ z. omega arith)) at g) in
    let s = both (leb 6 (len_of p.preamble)) (leb (len_of p.preamble) 1792) o.0 in
    record { long = leb-true 6 (len_of p.preamble) s.0; short = leb-true (len_of p.preamble) 1792 s.1; less = ltb-true (2 * p.words) (4 + round4 (len_of p.preamble)) o.1 }

grow_shown : (p : Part) → Grows p.words p.preamble → grown p ≡ true
unfolding grown
grow_shown p G = rw (le-leb 6 (len_of p.preamble) G.long, le-leb (len_of p.preamble) 1792 G.short, lt-ltb (2 * p.words) (4 + round4 (len_of p.preamble)) G.less) (or-true (eqb p.words 0))

grow_idle : grown no_part ≡ true
unfolding grown
grow_idle = refl

less_by : (k n b : ℕ) → 2 ≤ k → b ≡ 2 * (k - 2) + 2 → (b ≡ round4 n → ⊥) → 2 * k < 4 + round4 n → 2 * (k + 1) < 4 + round4 n
less_by k n b h e d g = omega (arith, d)

-- ---- one packet more

pub room_snoc : (ps : List Frame) (p : Frame) → room (ps ++ (p ∷ [])) ≡ room ps + (4 + round4 (length p.bytes))
unfolding room
room_snoc [] p = omega arith
room_snoc (x ∷ ps) p = omega (arith, room_snoc ps p)

sizes_snoc : (ps : List Frame) (p : Frame) → all_sized ps ≡ true → sized (length p.bytes) ≡ true → all_sized (ps ++ (p ∷ [])) ≡ true
unfolding all_sized
sizes_snoc [] p h s = rw s
sizes_snoc (x ∷ ps) p h s =
    let b = both (sized (length x.bytes)) (all_sized ps) h in
    rw b.0 (sizes_snoc ps p b.1 s)

-- ---- a word of the host's

module _ (size v : ℕ) (q : Queue) (O : Orderly size q) where
  fails-keeps : Orderly size (fails q)
  fails-keeps = record { space = O.space; sizes = O.sizes; bytes = O.bytes; grow = O.grow }

  opens-keeps : 2 ≤ free size q → q.part.words ≡ 0 → sized (len_of v) ≡ true → Orderly size (with_part (opened v) q)
  unfolding free
  opens-keeps r z s =
      let b = both (leb 6 (len_of v)) (leb (len_of v) 1792) s in
      let l : 6 ≤ len_of v = leb-true 6 (len_of v) b.0 in
      record { space = omega (arith, O.space); sizes = O.sizes; bytes = refl; grow = grow_shown (opened v) (record { long = l; short = leb-true (len_of v) 1792 b.1; less = omega arith }) }

  second-keeps : 2 ≤ free size q → q.part.words ≡ 1 → Orderly size (with_part (second q.part) q)
  unfolding free
  second-keeps r z =
      let G = grow_told q.part (omega arith) O.grow in
      let e : length q.part.bytes ≡ 0 = omega (arith, O.bytes) in
      record { space = omega (arith, O.space); sizes = O.sizes; bytes = e; grow = grow_shown (second q.part) (record { long = G.long; short = G.short; less = omega (arith, G.long) }) }

  more_keeps : 2 ≤ free size q → 2 ≤ q.part.words → Orderly size (completed (with_part (written v q.part) q))
  unfolding free
  more_keeps r z =
      let p : Part = q.part in
      let w : ℕ = p.preamble in
      let q₁ : Queue = with_part (written v p) q in
      let bs : List ℕ = p.bytes ++ (v % 256 ∷ v / 256 ∷ []) in
      let G = grow_told p (omega arith) O.grow in
      let l : length bs ≡ 2 * (p.words - 2) + 2 = length-append p.bytes (v % 256 ∷ v / 256 ∷ []) ∙ ap (λ (i : ℕ). i + 2) O.bytes in
      let left : room q.packets + 2 * p.words + 2 ≤ size = omega (arith, O.space) in
      by_test (eqb (length bs) (round4 (len_of w)))
      (λ y.
      let e : length bs ≡ round4 (len_of w) = eqb-true (length bs) (round4 (len_of w)) y in
      let f : Frame = begun (w / 2048) (take (len_of w) bs) in
      let k : length (take (len_of w) bs) ≡ len_of w = length-take-le (len_of w) bs (omega arith) in
      let sz : sized (length f.bytes) ≡ true = rw (k, le-leb 6 (len_of w) G.long, le-leb (len_of w) 1792 G.short) in
      let rm : room (q.packets ++ (f ∷ [])) ≡ room q.packets + (4 + round4 (len_of w)) = room_snoc q.packets f ∙ ap (λ (i : ℕ). room q.packets + (4 + round4 i)) k in
      rw (completes q₁ e) (record { space = omega arith; sizes = sizes_snoc q.packets f O.sizes sz; bytes = refl; grow = grow_idle }))
      (λ m.
      let e : (length bs ≡ round4 (len_of w) → ⊥) = eqb-false (length bs) (round4 (len_of w)) m in
      let d : 2 * (p.words + 1) < 4 + round4 (len_of w) = less_by p.words (len_of w) (length bs) z l e G.less in
      rw (goes_on_lem q₁ e) (record { space = omega arith; sizes = O.sizes; bytes = omega arith; grow = grow_shown (written v p) (record { long = G.long; short = G.short; less = d }) }))

  put-orderly : Orderly size (put size v q)
  put-orderly =
      by_test q.failed (λ y. rw (put-stays size v q y) O)
      (λ ok. by_test (ltb (free size q) 2) (λ y. rw (put_full size v q ok (ltb-true (free size q) 2 y)) fails-keeps)
      (λ m.
      let r : 2 ≤ free size q = ltb-false (free size q) 2 m in
      by_test (eqb q.part.words 0)
      (λ z.
      let e : q.part.words ≡ 0 = eqb-true q.part.words 0 z in
      by_test (sized (len_of v)) (λ s. rw (put-opens size v q ok r e s) (opens-keeps r e s)) (λ s. rw (put-bad size v q ok r e s) fails-keeps))
      (λ z.
      let e : (q.part.words ≡ 0 → ⊥) = eqb-false q.part.words 0 z in
      by_test (eqb q.part.words 1)
      (λ y. let d : q.part.words ≡ 1 = eqb-true q.part.words 1 y in rw (put_second size v q ok r d) (second-keeps r d))
      (λ y.
      let d : (q.part.words ≡ 1 → ⊥) = eqb-false q.part.words 1 y in
      let h : 2 ≤ q.part.words = omega (arith, e, d) in
      rw (put_more size v q ok r h) (more_keeps r h)))))

-- ---- the oldest leaves

others-room : (ps : List Frame) → room (others ps) ≤ room ps
unfolding room others
others-room [] = omega arith
others-room (p ∷ ps) = omega arith

others-sized : (ps : List Frame) → all_sized ps ≡ true → all_sized (others ps) ≡ true
unfolding all_sized others
others-sized [] h = refl
others-sized (p ∷ ps) h = (both (sized (length p.bytes)) (all_sized ps) h).1

leave-orderly : (size : ℕ) (q : Queue) → Orderly size q → Orderly size (leave q)
leave-orderly size q O = record { space = omega (arith, O.space, others-room q.packets); sizes = others-sized q.packets O.sizes; bytes = O.bytes; grow = O.grow }

-- ---- every step, and the empty FIFO

pub put_keeps : (size v : ℕ) (q : Queue) → orderly size q ≡ true → orderly size (put size v q) ≡ true
put_keeps size v q h = shown size (put size v q) (put-orderly size v q (told size q h))

pub leave-keeps : (size : ℕ) (q : Queue) → orderly size q ≡ true → orderly size (leave q) ≡ true
leave-keeps size q h = shown size (leave q) (leave-orderly size q (told size q h))

-- with no packet and no part it is sound in any size
pub idle-orderly : (size : ℕ) (failed : Bool) → orderly size (record { failed = failed; packets = []; part = no_part }) ≡ true
unfolding room all_sized
idle-orderly size failed = rw (le-leb 0 size (omega arith))

pub none-orderly : (size : ℕ) (q : Queue) → q.packets ≡ [] → q.part ≡ no_part → orderly size q ≡ true
none-orderly size q p e = rw (p, e) (idle-orderly size q.failed)

pub empty-orderly : (size : ℕ) → orderly size empty ≡ true
empty-orderly size = idle-orderly size false
