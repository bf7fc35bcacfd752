-- The order of the frames, and what the directory's words say of it. Assumes nothing.
use mathlib.Core.Path.{◌≡◌, refl, sym, ap, ◌∙◌}
use mathlib.Core.Bool.{Bool, true, false, not, ◌&&◌, and-true, and_assoc}
use mathlib.Core.List.{List, [], ◌∷◌, ◌++◌, map}
use Prim.Native.Nat.{ℕ, zero, suc, ◌+◌, ◌*◌, ◌-◌, ◌%◌, ◌≤◌, ◌<◌}
use native.Mathlib.Numerals.{add-one}
use native.Mathlib.Omega.{arith}
use borrow.Author.Tests.{leb-true, le-leb, lt-leb, ltb-true, ltb-false}
use lib.Dec.{leb, ltb}
use lib.ListN.{length, get_or, take, drop, length-drop}
use lib.Seq.{length-take-le, take-suc}
use Rattle.store.specs.Store as store
use Rattle.store.specs.Store.{round4, room_of, room_in}
use Rattle.store.proofs.Laws.{room-frames, room-append, room-one}
use Rattle.receive_rules.specs.Frame.{Frame, is_coming, room}
use Rattle.receive_rules.specs.Sound.{sized, ended, in_order}
use Rattle.receive_rules.specs.View.{told, rx_area, frames_of, ended_word, all_ended}
use Rattle.bits.proofs.Tests.{both, by_test}
use Rattle.receive_rules.proofs.Laws.{coming-word, room-told}

-- one number is below another where the other is not at most the one
pub below-not : (a b : ℕ) → ltb b a ≡ not (leb a b)
below-not a b = by_test (ltb b a) (λ y. rw (y, lt-leb a b (ltb-true b a y))) (λ n. rw (n, le-leb a b (ltb-false b a n)))

-- the words, one more
all_snoc : (ws : List ℕ) (w : ℕ) → all_ended (ws ++ (w ∷ [])) ≡ (all_ended ws && ended_word w)
unfolding all_ended
all_snoc [] w = and-true (ended_word w)
all_snoc (x ∷ ws) w = ap (λ (t : Bool). ended_word x && t) (all_snoc ws w) ∙ sym (and_assoc (ended_word x) (all_ended ws) (ended_word w))

pub all_more : (ws : List ℕ) (i : ℕ) → i < length ws → (all_ended (take i ws) && (sized (get_or ws i 0 % 2048) && ltb (get_or ws i 0) 32768)) ≡ all_ended (take (i + 1) ws)
all_more ws i h =
    let w : ℕ = get_or ws i 0 in
    ap (λ (t : Bool). all_ended (take i ws) && (sized (w % 2048) && t)) (below-not 32768 w)
    ∙ sym (ap (λ (j : ℕ). all_ended (take j ws)) (add-one i) ∙ ap all_ended (take-suc ws i 0 h) ∙ all_snoc (take i ws) w)

-- the words of frames that have ended, and one that is coming
order-words : (ws : List ℕ) (m : List ℕ) → room_of ws ≤ length m → all_ended ws ≡ in_order false (map told (store.frames ws m))
unfolding all_ended in_order store.frames room_of
order-words [] m h = refl
order-words (w ∷ []) m h =
    rw (length-take-le (w % 2048) m (omega arith), coming-word w) (and-true (ended_word w))
order-words (w ∷ v ∷ ws) m h =
    rw (length-take-le (w % 2048) m (omega arith), coming-word w)
    (ap (λ (t : Bool). ended_word w && t) (order-words (v ∷ ws) (drop (round4 (w % 2048)) m) (simp length-drop (omega arith))))

order_tip : (ws : List ℕ) (w : ℕ) (m : List ℕ) → room_of ws + round4 (w % 2048) ≤ length m
    → (all_ended ws && (sized (w % 2048) && leb 32768 w)) ≡ in_order true (map told (store.frames (ws ++ (w ∷ [])) m))
unfolding all_ended in_order store.frames room_of
order_tip [] w m h = rw (length-take-le (w % 2048) m (omega arith), coming-word w)
order_tip (x ∷ []) w m h =
    let k : length (drop (round4 (x % 2048)) m) ≡ length m - round4 (x % 2048) = length-drop (round4 (x % 2048)) m in
    rw (length-take-le (x % 2048) m (omega arith), coming-word x, length-take-le (w % 2048) (drop (round4 (x % 2048)) m) (omega arith), coming-word w, and-true (ended_word x))
order_tip (x ∷ y ∷ ws) w m h =
    let k : length (drop (round4 (x % 2048)) m) ≡ length m - round4 (x % 2048) = length-drop (round4 (x % 2048)) m in
    rw (length-take-le (x % 2048) m (omega arith), coming-word x)
    (and_assoc (ended_word x) (all_ended (y ∷ ws)) (sized (w % 2048) && leb 32768 w)
    ∙ ap (λ (t : Bool). ended_word x && t) (order_tip (y ∷ ws) w (drop (round4 (x % 2048)) m) (omega arith)))

part_length : (l : List ℕ) (n : ℕ) → n ≤ length l → length (take n (drop 0 l)) ≡ n
part_length l n h = length-take-le n l h

module _ (size n : ℕ) (ram dir : List ℕ) (S : store.Sound (rx_area size) n ram dir) where
  pub order-idle : all_ended (store.part 0 n dir) ≡ in_order false (frames_of size n ram dir)
  order-idle = order-words (store.part 0 n dir) (store.part 0 size ram) (rw (part_length ram size (omega (arith, S.in_ram))) S.room)

  pub room_in_lem : room_in (store.view (rx_area size) n ram dir) ≡ room_of (store.words (rx_area size) n dir)
  room_in_lem = room-frames (store.words (rx_area size) n dir) (store.part 0 size ram) (rw (part_length ram size (omega (arith, S.in_ram))) S.room)

  pub room_of_lem : room (frames_of size n ram dir) ≡ room_of (store.words (rx_area size) n dir)
  room_of_lem = room-told (store.view (rx_area size) n ram dir) ∙ room_in_lem

pub order_busy : (size n : ℕ) (ram dir : List ℕ) → store.Sound (rx_area size) n ram dir → (n ≡ 0 → ⊥)
    → (all_ended (store.part 0 (n - 1) dir) && (sized (get_or dir (n - 1) 0 % 2048) && leb 32768 (get_or dir (n - 1) 0))) ≡ in_order true (frames_of size n ram dir)
order_busy size zero ram dir S h = absurd (h refl)
order_busy size (suc k) ram dir S h =
    let e : suc k - 1 ≡ k = omega arith in
    let w : ℕ = get_or dir k 0 in
    let ws : List ℕ = store.part 0 k dir in
    let old : store.part 0 (suc k) dir ≡ ws ++ (w ∷ []) = take-suc dir k 0 (omega (arith, S.in_dir, S.few)) in
    let sum : room_of (store.part 0 (suc k) dir) ≡ room_of ws + round4 (w % 2048) = ap room_of old ∙ room-append ws (w ∷ []) ∙ ap (λ (x : ℕ). room_of ws + x) (room-one w) in
    rw (e, old) (order_tip ws w (store.part 0 size ram) (rw (part_length ram size (omega (arith, S.in_ram))) (omega (arith, S.room))))

-- the oldest frame has 8 to 1,792 bytes
sizes : (f : Frame) (b : Bool) → (sized (length f.bytes) && b) ≡ true → (8 ≤ length f.bytes) × (length f.bytes ≤ 1792)
sizes f b h =
    let n : ℕ = length f.bytes in
    let p = both (leb 8 n) (leb n 1792) (both (sized n) b h).0 in
    (leb-true 8 n p.0, leb-true n 1792 p.1)

pub oldest-sized : (storing : Bool) (f : Frame) (fs : List Frame) → in_order storing (f ∷ fs) ≡ true → (8 ≤ length f.bytes) × (length f.bytes ≤ 1792)
unfolding in_order
oldest-sized true f [] h = sizes f (is_coming f.state) h
oldest-sized false f [] h = sizes f (not (is_coming f.state)) h
oldest-sized storing f (g ∷ fs) h = sizes f (not (is_coming f.state)) (both (ended f) (in_order storing (g ∷ fs)) h).0

-- so that there is a place in the directory for each
pub order-count : (s : Bool) (fs : List Frame) → in_order s fs ≡ true → 8 * length fs ≤ room fs
unfolding in_order room
order-count s [] h = omega arith
order-count s (f ∷ []) h = omega (arith, (oldest-sized s f [] h).0)
order-count s (f ∷ g ∷ fs) h = omega (arith, (oldest-sized s f (g ∷ fs) h).0, order-count s (g ∷ fs) (both (ended f) (in_order s (g ∷ fs)) h).1)

count-frames : (ws m : List ℕ) → length (map told (store.frames ws m)) ≡ length ws
unfolding store.frames
count-frames [] m = refl
count-frames (w ∷ ws) m = rw (count-frames ws (drop (round4 (w % 2048)) m))

-- the count is that of the frames
pub frames-counted : (size n : ℕ) (ram dir : List ℕ) → store.Sound (rx_area size) n ram dir → length (frames_of size n ram dir) ≡ n
frames-counted size n ram dir S = count-frames (store.part 0 n dir) (store.part 0 size ram) ∙ part_length dir n (omega (arith, S.in_dir, S.few))

-- a frame that fits finds a place
pub place-left : (size n : ℕ) (s : Bool) (ram dir : List ℕ) → store.Sound (rx_area size) n ram dir → in_order s (frames_of size n ram dir) ≡ true
    → room_of (store.words (rx_area size) n dir) + 8 ≤ size → size ≤ 6144 → n < 768
place-left size n s ram dir S o k h = omega (arith, frames-counted size n ram dir S, order-count s (frames_of size n ram dir) o, room_of_lem size n ram dir S)
