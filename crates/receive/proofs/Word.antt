-- What the oldest frame's word says to a reader, and what is left when that frame leaves. Assumes nothing.
use mathlib.Core.Path.{◌≡◌, refl}
use mathlib.Core.Bool.{Bool, true, false, cond, not}
use mathlib.Core.List.{List, [], ◌∷◌, map}
use Prim.Native.Nat.{ℕ, zero, suc, ◌+◌, ◌-◌, ◌/◌, ◌%◌, ◌≤◌, ◌<◌}
use native.Mathlib.Omega.{arith}
use borrow.Author.Tests.{le-leb, lt-leb}
use lib.Dec.{leb}
use lib.ListN.{length, get_or}
use Rattle.store.specs.Store as store
use Rattle.store.specs.Store.{round4}
use Rattle.receive_rules.specs.Count.{unread, encoded}
use Rattle.receive_rules.specs.Reading.{marks, unread_in, rx_status, complete, readable, pad_in, oldest}
use Rattle.receive_rules.specs.View.{state_of, told, rx_area, frames_of, Turns}
use Rattle.receive_rules.proofs.Laws.{coming-word, lift}
use Rattle.receive_rules.proofs.Oldest.{none, front, shown-first, readable-some}

-- ---- the marks of a word

pub marks-coming : (w : ℕ) → 32768 ≤ w → marks (state_of (w / 2048)) ≡ 32768
unfolding marks state_of
marks-coming w h = rw (le-leb 16 (w / 2048) (omega arith))

pub marks-damaged : (w : ℕ) → w < 32768 → 16384 ≤ w → marks (state_of (w / 2048)) ≡ w - w % 2048
unfolding marks state_of
marks-damaged w h k = rw (lt-leb 16 (w / 2048) (omega arith), le-leb 8 (w / 2048) (omega arith)) (omega arith)

pub marks-whole : (w : ℕ) → w < 16384 → marks (state_of (w / 2048)) ≡ 0
unfolding marks state_of
marks-whole w h = rw (lt-leb 16 (w / 2048) (omega arith), lt-leb 8 (w / 2048) (omega arith))

-- ---- a store that is not empty

pick : (t : Bool) (a b : ℕ) {m : ℕ} → a ≤ m → b ≤ m → cond t a b ≤ m
pick true a b p q = p
pick false a b p q = q

module _ (size n : ℕ) (ram dir : List ℕ) (S : store.Sound (rx_area size) n ram dir) (h : n ≡ 0 → ⊥) where
  pub unread-some : (read : ℕ) → unread_in read (frames_of size n ram dir) ≡ unread (get_or dir 0 0 % 2048) read
  unread-some read = rw (shown-first size n ram dir S h, (front size n ram dir S h).len)

  pub pad_some : pad_in (frames_of size n ram dir) ≡ cond (leb 32768 (get_or dir 0 0)) 0 (round4 (get_or dir 0 0 % 2048) - get_or dir 0 0 % 2048)
  pad_some = rw (shown-first size n ram dir S h, (front size n ram dir S h).len, coming-word (get_or dir 0 0))

  pub status-some : (read : ℕ) → rx_status read (frames_of size n ram dir) ≡ marks (state_of (get_or dir 0 0 / 2048)) + encoded (unread (get_or dir 0 0 % 2048) read)
  unfolding rx_status
  status-some read = rw (shown-first size n ram dir S h, (front size n ram dir S h).len)

  pub complete-some : complete (frames_of size n ram dir) ≡ not (leb 32768 (get_or dir 0 0))
  unfolding complete
  complete-some = rw (shown-first size n ram dir S h, coming-word (get_or dir 0 0))

  pub readable-most : readable (frames_of size n ram dir) ≤ get_or dir 0 0 % 2048 + 3
  readable-most = rw (readable-some size n ram dir S h) (pick (leb 32768 (get_or dir 0 0)) _ _ (omega arith) (omega arith))

  pub oldest-some : oldest (frames_of size n ram dir) ≡ (front size n ram dir S h).bytes
  unfolding oldest
  oldest-some = rw (shown-first size n ram dir S h)

  pub oldest-same : store.oldest (store.view (rx_area size) n ram dir) ≡ (front size n ram dir S h).bytes
  unfolding store.oldest
  oldest-same = rw (front size n ram dir S h).shape

  -- the oldest leaves
  pub oldest-leaves : (ram' dir' : List ℕ) → store.Becomes (rx_area size) ram dir ram' dir' (n - 1) (store.newer (store.view (rx_area size) n ram dir))
      → Turns size ram dir ram' dir' (n - 1) (map told (front size n ram dir S h).others)
  unfolding store.newer
  oldest-leaves ram' dir' B = lift size ram dir ram' dir' (n - 1) _ _ B (rw (front size n ram dir S h).shape)

-- what may be read is small
pub readable-small : (size n : ℕ) (ram dir : List ℕ) → store.Sound (rx_area size) n ram dir → readable (frames_of size n ram dir) ≤ 2050
unfolding readable
readable-small size zero ram dir S = rw (none size zero ram dir refl) (omega arith)
readable-small size (suc n) ram dir S = omega (arith, readable-most size (suc n) ram dir S (λ e. omega arith))

-- where two bytes may be read there is a frame
pub readable_there : (size n m : ℕ) (ram dir : List ℕ) → m + 2 ≤ readable (frames_of size n ram dir) → 0 < n
unfolding readable store.frames
readable_there size zero m ram dir h = absurd (omega arith)
readable_there size (suc n) m ram dir h = omega arith

-- past its end a frame reads 0
pub get_d_past : (l : List ℕ) (i : ℕ) → length l ≤ i → get_or l i 0 ≡ 0
get_d_past [] i h = refl
get_d_past (x ∷ l) zero h = absurd (omega arith)
get_d_past (x ∷ l) (suc i) h = get_d_past l i (omega arith)
