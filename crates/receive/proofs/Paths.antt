-- The ways through a start, a byte and an end, over plain numbers and lists: what the store does to its frames is what the definition does. Assumes nothing.
use mathlib.Core.Path.{◌≡◌, sym, ap, ◌∙◌}
use mathlib.Core.Bool.{Bool, true, false, ◌||◌}
use mathlib.Core.List.{List, [], ◌∷◌, ◌++◌, map}
use Prim.Native.Nat.{ℕ, ◌+◌, ◌*◌, ◌-◌, ◌/◌, ◌%◌, ◌≤◌, ◌<◌}
use native.Mathlib.Omega.{arith}
use borrow.Author.Tests.{leb-false, le-leb, lt-leb}
use lib.Dec.{leb}
use lib.ListN.{length, get_or, length-append}
use Rattle.store.specs.Store as store
use Rattle.store.specs.Store.{at_newest, round4, room_in, headed, begun}
use Rattle.store.proofs.Laws.{at_snoc, newest_snoc, older_snoc, snoc_not}
use Rattle.store.proofs.Lift.{Last, last, becomes_same, after}
use Rattle.receive_rules.specs.Frame.{coming, Frame, overran}
use Rattle.receive_rules.specs.Wire.{fresh, longer, fits, full, takes, ending, ends}
use Rattle.receive_rules.specs.Sound.{in_order}
use Rattle.receive_rules.specs.View.{state_of, told, rx_area, frames_of, Turns}
use Rattle.bits.proofs.Tests.{neither}
use Rattle.receive_rules.proofs.Laws.{overran-word, room-told, room_snoc, map_snoc, lift}
use Rattle.receive_rules.proofs.Taking.{newest-coming, takes_none, takes-marks, takes-longer}

-- ---- the frames, told, are the others and the newest

module _ (size n w : ℕ) (ram dir : List ℕ) (L : Last (rx_area size) n w ram dir) where
  rest : List Frame
  rest = map told L.others

  tip : Frame
  tip = record { bytes = L.bytes; state = state_of (w / 2048) }

  shown : frames_of size n ram dir ≡ rest ++ (tip ∷ [])
  unfolding rest tip
  shown = ap (λ (l : List store.Frame). map told l) L.shape ∙ map_snoc L.others _

  changed : (g : Frame → Frame) → at_newest g (frames_of size n ram dir) ≡ rest ++ (g tip ∷ [])
  changed g = ap (λ (l : List Frame). at_newest g l) shown ∙ at_snoc g rest tip

  told_changed : (g : store.Frame → store.Frame) → map told (at_newest g (store.view (rx_area size) n ram dir)) ≡ rest ++ (told (g (begun (w / 2048) L.bytes)) ∷ [])
  unfolding rest
  told_changed g =
      ap (λ (l : List store.Frame). map told (at_newest g l)) L.shape ∙ ap (λ (l : List store.Frame). map told l) (at_snoc g L.others _) ∙ map_snoc L.others _

  -- where g makes the newest the frame f, the frames are the others and f
  becomes : (g : Frame → Frame) (f : Frame) → g tip ≡ f → rest ++ (f ∷ []) ≡ at_newest g (frames_of size n ram dir)
  becomes g f e = sym (changed g ∙ ap (λ (x : Frame). rest ++ (x ∷ [])) e)

  -- whether one byte more fits
  fitting : (b : ℕ) → fits size b (frames_of size n ram dir) ≡ leb (room_in L.others + (w % 2048 + 4) / 4 * 4) size
  unfolding rest tip
  fitting b =
      let e : w % 2048 + 1 + 3 ≡ w % 2048 + 4 = omega arith in
      rw (changed (longer b), room_snoc rest (longer b tip), room-told L.others, length-append L.bytes (b ∷ []), L.len, e)

  -- the test before a byte is stored
  closed : (t : Bool) → (leb 49152 w || leb 1792 (w % 2048)) ≡ t → (overran tip.state || full tip) ≡ t
  unfolding tip
  closed t h = rw (overran-word w, L.len) h

  dropped : (b : ℕ) (space : Bool) → (leb 49152 w || leb 1792 (w % 2048)) ≡ true → map told (store.view (rx_area size) n ram dir) ≡ at_newest (takes b space) (frames_of size n ram dir)
  dropped b space t = shown ∙ becomes (takes b space) tip (takes_none b space tip (closed true t))

  marks : (b : ℕ) → in_order true (frames_of size n ram dir) ≡ true → (leb 49152 w || leb 1792 (w % 2048)) ≡ false
      → map told (at_newest (headed 24) (store.view (rx_area size) n ram dir)) ≡ at_newest (takes b false) (frames_of size n ram dir)
  unfolding tip state_of
  marks b o t =
      told_changed (headed 24)
      ∙ becomes (takes b false) (record { bytes = tip.bytes; state = coming true }) (takes-marks b tip (newest-coming rest tip (rw shown at o)) (closed false t))

  taken : (b : ℕ) → (leb 49152 w || leb 1792 (w % 2048)) ≡ false
      → map told (at_newest (store.extended b) (store.view (rx_area size) n ram dir)) ≡ at_newest (takes b true) (frames_of size n ram dir)
  unfolding tip
  taken b t = told_changed (store.extended b) ∙ becomes (takes b true) (longer b tip) (takes-longer b tip (closed false t))

  ended : (h : ℕ) (check alignment : Bool) → state_of h ≡ ending (leb 49152 w) (w % 2048) check alignment
      → map told (at_newest (headed h) (store.view (rx_area size) n ram dir)) ≡ at_newest (ends check alignment) (frames_of size n ram dir)
  unfolding tip
  ended h check alignment s =
      told_changed (headed h) ∙ becomes (ends check alignment) (record { bytes = tip.bytes; state = state_of h }) (rw (overran-word w, L.len, s))

  -- where the next byte goes
  opening : w % 2048 < 1792 → room_in L.others + (w % 2048 + 4) / 4 * 4 ≤ size → store.Open (rx_area size) (room_in L.others + w % 2048) 1 (store.view (rx_area size) n ram dir)
  opening short space =
      let f : store.Frame = begun (w / 2048) L.bytes in
      let e : length (store.newest (store.view (rx_area size) n ram dir)) ≡ w % 2048 = rw (L.shape, newest_snoc L.others f) L.len in
      let d : room_in (store.older (store.view (rx_area size) n ram dir)) ≡ room_in L.others = rw (L.shape, older_snoc L.others f) in
      record { some = rw L.shape (snoc_not L.others f); short = omega arith; here = omega arith; space = rw (d, e) (omega arith) }

pub newest_of : (size n : ℕ) (ram dir : List ℕ) → store.Sound (rx_area size) n ram dir → 0 < n → Last (rx_area size) n (get_or dir (n - 1) 0) ram dir
newest_of size n ram dir S h =
    let e : 0 + n - 1 ≡ n - 1 = omega arith in
    rw e at (last (rx_area size) n ram dir S h)

-- ---- a byte is dropped, marks the frame, or is taken: the three ways of the code

module _ (size n b : ℕ) (ram dir : List ℕ) (S : store.Sound (rx_area size) n ram dir) (h : 0 < n) where
  pub byte-dropped : (leb 49152 (get_or dir (n - 1) 0) || leb 1792 (get_or dir (n - 1) 0 % 2048)) ≡ true
      → Turns size ram dir ram dir n (at_newest (takes b (fits size b (frames_of size n ram dir))) (frames_of size n ram dir))
  byte-dropped t =
      lift size ram dir ram dir n _ _ (becomes_same (rx_area size) n ram dir S)
      (dropped size n (get_or dir (n - 1) 0) ram dir (newest_of size n ram dir S h) b (fits size b (frames_of size n ram dir)) t)

  module _ (used : ℕ) (u : used ≡ store.room_of (store.words (rx_area size) n dir)) (t : (leb 49152 (get_or dir (n - 1) 0) || leb 1792 (get_or dir (n - 1) 0 % 2048)) ≡ false) where
    pub byte-marks : (ram' dir' : List ℕ) → in_order true (frames_of size n ram dir) ≡ true
        → size < used - round4 (get_or dir (n - 1) 0 % 2048) + (get_or dir (n - 1) 0 % 2048 + 4) / 4 * 4
        → store.Becomes (rx_area size) ram dir ram' dir' n (at_newest (headed 24) (store.view (rx_area size) n ram dir))
        → Turns size ram dir ram' dir' n (at_newest (takes b (fits size b (frames_of size n ram dir))) (frames_of size n ram dir))
    byte-marks ram' dir' o k B =
        let w : ℕ = get_or dir (n - 1) 0 in
        let L = newest_of size n ram dir S h in
        let e : fits size b (frames_of size n ram dir) ≡ false = fitting size n w ram dir L b ∙ lt-leb (room_in L.others + (w % 2048 + 4) / 4 * 4) size (omega arith) in
        rw e (lift size ram dir ram' dir' n _ _ B (marks size n w ram dir L b o t))

    pub byte-taken : (ram' dir' : List ℕ) → used - round4 (get_or dir (n - 1) 0 % 2048) + (get_or dir (n - 1) 0 % 2048 + 4) / 4 * 4 ≤ size
        → store.Becomes (rx_area size) ram dir ram' dir' n (at_newest (store.extended b) (store.view (rx_area size) n ram dir))
        → Turns size ram dir ram' dir' n (at_newest (takes b (fits size b (frames_of size n ram dir))) (frames_of size n ram dir))
    byte-taken ram' dir' k B =
        let w : ℕ = get_or dir (n - 1) 0 in
        let L = newest_of size n ram dir S h in
        let e : fits size b (frames_of size n ram dir) ≡ true = fitting size n w ram dir L b ∙ le-leb (room_in L.others + (w % 2048 + 4) / 4 * 4) size (omega arith) in
        rw e (lift size ram dir ram' dir' n _ _ B (taken size n w ram dir L b t))

    pub byte_open : used - round4 (get_or dir (n - 1) 0 % 2048) + (get_or dir (n - 1) 0 % 2048 + 4) / 4 * 4 ≤ size
        → store.Open (rx_area size) (used - round4 (get_or dir (n - 1) 0 % 2048) + get_or dir (n - 1) 0 % 2048) 1 (store.view (rx_area size) n ram dir)
    byte_open k =
        let w : ℕ = get_or dir (n - 1) 0 in
        let L = newest_of size n ram dir S h in
        let e : used - round4 (w % 2048) + w % 2048 ≡ room_in L.others + w % 2048 = omega arith in
        rw e (opening size n w ram dir L (leb-false 1792 (w % 2048) (neither (leb 49152 w) (leb 1792 (w % 2048)) t).1) (omega arith))

-- ---- the newest frame ends with the flags h

pub frame-ends : (size n h : ℕ) (check alignment : Bool) (ram dir ram' dir' : List ℕ) → store.Sound (rx_area size) n ram dir → 0 < n
    → state_of h ≡ ending (leb 49152 (get_or dir (n - 1) 0)) (get_or dir (n - 1) 0 % 2048) check alignment
    → store.Becomes (rx_area size) ram dir ram' dir' n (at_newest (headed h) (store.view (rx_area size) n ram dir))
    → Turns size ram dir ram' dir' n (at_newest (ends check alignment) (frames_of size n ram dir))
frame-ends size n h check alignment ram dir ram' dir' S p s B =
    lift size ram dir ram' dir' n _ _ B (ended size n (get_or dir (n - 1) 0) ram dir (newest_of size n ram dir S p) h check alignment s)

-- ---- a frame begins: the next byte goes behind the others, and the first bytes are its own

pub start_open : (size at m h : ℕ) (fs : List store.Frame) → at ≡ room_in fs → m ≤ 1792 → room_in fs + round4 m ≤ size → store.Open (rx_area size) at m (fs ++ (begun h [] ∷ []))
start_open size at m h fs e short space =
    let f : store.Frame = begun h [] in
    let d : room_in (store.older (fs ++ (f ∷ []))) ≡ room_in fs = ap room_in (older_snoc fs f) in
    let l : length (store.newest (fs ++ (f ∷ []))) ≡ 0 = ap length (newest_snoc fs f) in
    let z : 0 + m ≡ m = omega arith in
    record { some = snoc_not fs f; short = omega arith; here = omega arith; space = rw (d, l, z) space }

pub start-turns : (size n : ℕ) (bs ram dir ram₁ dir₁ ram' dir' : List ℕ)
    → store.Becomes (rx_area size) ram dir ram₁ dir₁ (n + 1) (store.view (rx_area size) n ram dir ++ (begun 16 [] ∷ []))
    → store.Becomes (rx_area size) ram₁ dir₁ ram' dir' (n + 1) (at_newest (store.extended_by bs) (store.view (rx_area size) (n + 1) ram₁ dir₁))
    → Turns size ram dir ram' dir' (n + 1) (frames_of size n ram dir ++ (fresh bs ∷ []))
unfolding state_of
start-turns size n bs ram dir ram₁ dir₁ ram' dir' B C =
    lift size ram dir ram' dir' (n + 1) _ _ (after (rx_area size) ram dir ram₁ dir₁ ram' dir' (n + 1) (n + 1) _ _ B C)
    (ap (λ (l : List store.Frame). map told (at_newest (store.extended_by bs) l)) B.holds
    ∙ ap (λ (l : List store.Frame). map told l) (at_snoc (store.extended_by bs) (store.view (rx_area size) n ram dir) (begun 16 []))
    ∙ map_snoc (store.view (rx_area size) n ram dir) (begun 16 bs))
