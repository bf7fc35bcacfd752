-- Laws of parts of lists, and of the room that packets take. Assumes nothing.
use mathlib.Core.Path.{◌≡◌, refl, sym, ap, ◌∙◌}
use mathlib.Core.Logic.{inl}
use mathlib.Core.Bool.{true}
use mathlib.Core.List.{List, [], ◌∷◌, ◌++◌}
use Prim.Native.Nat.{ℕ, suc, ◌+◌, ◌*◌, ◌-◌, ◌≤◌, ◌<◌}
use native.Mathlib.Omega.{arith}
use borrow.Author.Tests.{leb-true}
use lib.Dec.{leb}
use mathlib.Core.List.{append_assoc}
use lib.ListN.{length, take, drop, get_or, set, length-drop, length-set}
use lib.Seq.{length-take-le, take-take, drop-drop, get_or-take, get_or-drop}
use Rattle.store.specs.Store.{frames, len_of, round4, room_of, part}
use Rattle.store.proofs.Laws.{drop-take-le, part_snoc_set, kept-part, kept_set, frames-take}
use Rattle.transmit_rules.specs.Queue.{room}
use Rattle.transmit_rules.specs.Write.{sized}
use Rattle.transmit_rules.specs.QueueSound.{all_sized}
use Rattle.bits.proofs.Tests.{both}

pub part_length : (l : List ℕ) (f n : ℕ) → f + n ≤ length l → length (part f n l) ≡ n
part_length l f n h = length-take-le n (drop f l) (simp length-drop (omega arith))

-- a part of a part
pub part-part : (l : List ℕ) (j k i n : ℕ) → i + n ≤ k → part i n (part j k l) ≡ part (j + i) n l
part-part l j k i n h =
    ap (λ (r : List ℕ). take n r) (drop-take-le i k (drop j l) (omega arith))
    ∙ take-take n (k - i) (drop i (drop j l)) (omega arith) ∙ ap (λ (r : List ℕ). take n r) (drop-drop i j l)

pub get_d_part : (l : List ℕ) (f n i : ℕ) → i < n → get_or (part f n l) i 0 ≡ get_or l (f + i) 0
get_d_part l f n i h = get_or-take n (drop f l) i 0 h ∙ get_or-drop f l i 0

-- a store behind a part, and the first k of it
pub part-behind : (l : List ℕ) (f n j v : ℕ) → f + n ≤ j → part f n (set l j v) ≡ part f n l
part-behind l f n j v h = kept-part l (set l j v) j 1 f n (kept_set l j 1 j v (omega arith) (omega arith)) (inl h)

-- two stores at the end of a part
pub part-two : (l : List ℕ) (f k j x y : ℕ) → j ≡ f + k → f + k + 1 < length l → part f (k + 2) (set (set l j x) (j + 1) y) ≡ part f k l ++ (x ∷ y ∷ [])
part-two l f k j x y e h =
    let p : j + 1 ≡ f + suc k = omega arith in
    let q : k + 2 ≡ suc (suc k) = omega arith in
    rw (p, q) (part_snoc_set (set l j x) f (suc k) y (rw length-set (omega arith))
    ∙ ap (λ (r : List ℕ). r ++ (y ∷ [])) (ap (λ (i : ℕ). part f (suc k) (set l i x)) e ∙ part_snoc_set l f k x (omega arith))
    ∙ append_assoc (part f k l) (x ∷ []) (y ∷ []))

-- frames look no further than their room
pub frames-same : (ws l m : List ℕ) (k : ℕ) → room_of ws ≤ k → take k l ≡ take k m → frames ws l ≡ frames ws m
frames-same ws l m k h e = sym (frames-take ws l k h) ∙ ap (λ (r : List ℕ). frames ws r) e ∙ frames-take ws m k h

-- the room of packets: 4 for each beside the room of their data
pub room-words : (ws m : List ℕ) → room_of ws ≤ length m → room (frames ws m) ≡ room_of ws + 4 * length ws
unfolding room frames room_of
room-words [] m h = refl
room-words (w ∷ ws) m h =
    rw (length-take-le (len_of w) m (omega arith)) (omega (arith, room-words ws (drop (round4 (len_of w)) m) (simp length-drop (omega arith))))

-- each takes 8 or more, so that a place of the directory is left
pub least : (ws m : List ℕ) → room_of ws ≤ length m → all_sized (frames ws m) ≡ true → 8 * length ws ≤ room_of ws
unfolding all_sized frames room_of
least [] m h s = omega arith
least (w ∷ ws) m h s =
    let e : length (take (len_of w) m) ≡ len_of w = length-take-le (len_of w) m (omega arith) in
    let p = both (sized (length (take (len_of w) m))) _ s in
    let q = both (leb 6 (length (take (len_of w) m))) _ p.0 in
    let k : 6 ≤ len_of w = rw e at (leb-true 6 (length (take (len_of w) m)) q.0) in
    omega (arith, least ws (drop (round4 (len_of w)) m) (simp length-drop (omega arith)) p.1)
