-- The test that a call makes says what `Holds` says. Assumes nothing.
use mathlib.Core.Path.{◌≡◌, refl, sym, ap, ◌∙◌}
use mathlib.Core.Bool.{Bool, true, false, ◌&&◌, ◌||◌, and-true, and_assoc}
use mathlib.Core.List.{List, [], ◌∷◌, ◌++◌}
use Prim.Native.Nat.{ℕ, zero, suc, ◌+◌, ◌*◌, ◌-◌, ◌%◌, ◌≤◌, ◌<◌}
use native.Mathlib.Numerals.{add-one}
use native.Mathlib.Omega.{arith}
use borrow.Author.Tests.{leb-true, le-leb, lt-leb, eq-eqb}
use lib.Dec.{leb, ltb, eqb}
use lib.ListN.{length, take, drop, get_or, length-drop}
use lib.Seq.{length-take-le, take-suc}
use Rattle.store.specs.Store.{frames, len_of, round4, room_of, part}
use Rattle.transmit_rules.specs.Queue.{room}
use Rattle.transmit_rules.specs.Write.{sized}
use Rattle.transmit_rules.specs.QueueSound.{all_sized, growing, orderly}
use Rattle.transmit_rules.specs.QueueView.{packets_of, part_of, queue_of, Packed, Holds, good_words, sound_fifo}
use Rattle.transmit_rules.specs.declared.Fifo.{Fifo}
use Rattle.bits.proofs.Tests.{by_test, both}
use Rattle.transmit_rules.proofs.Parts.{part_length}
use Rattle.transmit_rules.proofs.Facts.{words_of, room_of_lem, facts}

-- the words, one more
good_snoc : (ws : List ℕ) (w : ℕ) → good_words (ws ++ (w ∷ [])) ≡ (good_words ws && sized (w % 2048))
unfolding good_words
good_snoc [] w = and-true (sized (w % 2048))
good_snoc (x ∷ ws) w = ap (λ (t : Bool). sized (x % 2048) && t) (good_snoc ws w) ∙ sym (and_assoc (sized (x % 2048)) (good_words ws) (sized (w % 2048)))

pub good_more : (ws : List ℕ) (i : ℕ) → i < length ws → (good_words (take i ws) && sized (get_or ws i 0 % 2048)) ≡ good_words (take (i + 1) ws)
good_more ws i h = sym (ap (λ (j : ℕ). good_words (take j ws)) (add-one i) ∙ ap good_words (take-suc ws i 0 h) ∙ good_snoc (take i ws) (get_or ws i 0))

good-frames : (ws m : List ℕ) → room_of ws ≤ length m → all_sized (frames ws m) ≡ good_words ws
unfolding all_sized good_words frames room_of
good-frames [] m h = refl
good-frames (w ∷ ws) m h =
    rw (length-take-le (len_of w) m (omega arith)) (ap (λ (t : Bool). sized (len_of w) && t) (good-frames ws (drop (round4 (len_of w)) m) (simp length-drop (omega arith))))

growing_of : (size n k : ℕ) (ram dir : List ℕ) → 8192 - size + room_of (part 768 n dir) + 2 * (k - 2) ≤ length ram
    → growing (part_of size n k ram dir) ≡ (eqb k 0 || sized (len_of (get_or dir (768 + n) 0)) && ltb (2 * k) (4 + round4 (len_of (get_or dir (768 + n) 0))))
unfolding part_of
growing_of size n zero ram dir h = refl
growing_of size n (suc k) ram dir h =
    rw (eq-eqb (length (part (8192 - size + room_of (part 768 n dir)) (2 * (suc k - 2)) ram)) (2 * (suc k - 2)) (part_length ram (8192 - size + room_of (part 768 n dir)) (2 * (suc k - 2)) h))

-- the tests on the words of the directory say that the FIFO is orderly
pub orderly-same : (size used : ℕ) (f : Fifo) (ram dir : List ℕ) → Packed size f ram dir → used ≡ room_of (part 768 f.packets dir)
    → (leb (used + 4 * f.packets + 2 * f.words) size && good_words (part 768 f.packets dir)
    && (eqb f.words 0 || sized (len_of (get_or dir (768 + f.packets) 0)) && ltb (2 * f.words) (4 + round4 (len_of (get_or dir (768 + f.packets) 0)))))
    ≡ orderly size (queue_of size f ram dir)
orderly-same size used f ram dir S u =
    let n : ℕ = f.packets in
    let k : ℕ = f.words in
    let l : length (part (8192 - size) size ram) ≡ size = part_length ram (8192 - size) size S.in_ram in
    let g : all_sized (packets_of size n ram dir) ≡ good_words (part 768 n dir) = good-frames (part 768 n dir) (part (8192 - size) size ram) (omega (arith, S.room)) in
    let r : room (packets_of size n ram dir) ≡ used + 4 * n = room_of_lem size n ram dir S ∙ omega arith in
    by_test (leb (used + 4 * n + 2 * k) size)
    (λ y.
    let sp : used + 4 * n + 2 * k ≤ size = leb-true (used + 4 * n + 2 * k) size y in
    rw (growing_of size n k ram dir (omega (arith, S.in_ram)), words_of size n k ram dir, r, g))
    (λ m. rw (words_of size n k ram dir, r, g, m))

-- too many words: there is no room for them
pub words-many : (size : ℕ) (f : Fifo) (ram dir : List ℕ) → size ≤ 4096 → 2048 < f.words → orderly size (queue_of size f ram dir) ≡ false
words-many size f ram dir s h =
    let n : ℕ = f.packets in
    let k : ℕ = f.words in
    rw (words_of size n k ram dir, lt-leb (room (packets_of size n ram dir) + 2 * k) size (omega arith))

-- ---- the test, as facts, both ways

pub sound-holds : (size : ℕ) (f : Fifo) (ram dir : List ℕ) → size ≤ 4096 → 8192 ≤ length ram → 1110 ≤ length dir → sound_fifo size f ram dir ≡ true → Holds size f ram dir
unfolding sound_fifo
sound-holds size f ram dir small hr hd h =
    let a : Bool = leb f.packets 341 in
    let b : Bool = leb (room_of (part 768 f.packets dir)) size in
    let p = both (a && b) (orderly size (queue_of size f ram dir)) h in
    let q = both a b p.0 in
    record {
      small = small;
      packed = record {
        in_ram = omega arith;
        in_dir = omega arith;
        few = omega (arith, leb-true f.packets 341 q.0);
        small = omega arith;
        room = leb-true (room_of (part 768 f.packets dir)) size q.1;
      };
      calm = p.1;
    }

pub holds-sound : (size : ℕ) (f : Fifo) (ram dir : List ℕ) → Holds size f ram dir → sound_fifo size f ram dir ≡ true
unfolding sound_fifo
holds-sound size f ram dir H =
    let F = facts size f ram dir H in
    let few : f.packets ≤ 341 = omega (arith, F.place) in
    rw (H.calm, le-leb f.packets 341 few, le-leb (room_of (part 768 f.packets dir)) size H.packed.room)
