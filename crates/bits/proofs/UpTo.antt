-- A list whose first i elements were stepped by f: none at the start, one more with each turn, all at the end. Assumes nothing.
use mathlib.Core.Path.{◌≡◌, refl, sym, ap, ◌∙◌}
use Prim.Native.Nat.{ℕ, zero, suc, ◌+◌, ◌≤◌}
use native.Mathlib.Numerals.{add-one}
use native.Mathlib.Nat.{not-suc-le-zero, le_of_suc-le-suc}
use mathlib.Core.List.{List, [], ◌∷◌, map}
use lib.ListN.{length, get_or, set, take, drop}
use Rattle.bits.specs.UpTo.{up_to}

module _ {X : Type 0} (f : X → X) where
  pub up_to_none : (xs : List X) → up_to f 0 xs ≡ xs
  unfolding up_to
  up_to_none xs = refl

  pub up_to_length : (i : ℕ) (xs : List X) → length (up_to f i xs) ≡ length xs
  unfolding up_to
  up_to_length zero xs = refl
  up_to_length (suc i) [] = refl
  up_to_length (suc i) (x ∷ xs) = ap suc (up_to_length i xs)

  -- one more
  pub up_to_next : (i : ℕ) (xs : List X) (d : X) → set (up_to f i xs) i (f (get_or (up_to f i xs) i d)) ≡ up_to f (suc i) xs
  unfolding up_to
  up_to_next zero [] d = refl
  up_to_next zero (x ∷ xs) d = refl
  up_to_next (suc i) [] d = refl
  up_to_next (suc i) (x ∷ xs) d = ap (λ (l : List X). f x ∷ l) (up_to_next i xs d)

  -- all
  pub up_to_all : (i : ℕ) (xs : List X) → length xs ≤ i → up_to f i xs ≡ map f xs
  unfolding up_to
  up_to_all zero [] h = refl
  up_to_all zero (x ∷ xs) h = absurd (not-suc-le-zero h)
  up_to_all (suc i) [] h = refl
  up_to_all (suc i) (x ∷ xs) h = ap (λ (l : List X). f x ∷ l) (up_to_all i xs (le_of_suc-le-suc h))

  -- a turn of a loop that steps the element at i
  pub up_to_turn : (i : ℕ) (xs l : List X) (d r : X) → l ≡ up_to f i xs → r ≡ f (get_or l i d) → set l i r ≡ up_to f (i + 1) xs
  up_to_turn i xs l d r e h = ap (set l i) h ∙ ap (λ (k : List X). set k i (f (get_or k i d))) e ∙ up_to_next i xs d ∙ ap (λ (j : ℕ). up_to f j xs) (sym (add-one i))

  -- the first n, after n turns
  pub up_to_take : (n : ℕ) (xs : List X) → take n (up_to f n xs) ≡ map f (take n xs)
  unfolding up_to
  up_to_take zero xs = refl
  up_to_take (suc n) [] = refl
  up_to_take (suc n) (x ∷ xs) = ap (λ (l : List X). f x ∷ l) (up_to_take n xs)

  pub up_to_ends : (n i k : ℕ) (xs l : List X) → i ≡ n → k ≡ n → l ≡ up_to f i xs → take k l ≡ map f (take n xs)
  up_to_ends n i k xs l e h q = (λ j. take (h j) (q j)) ∙ ap (λ (m : ℕ). take n (up_to f m xs)) e ∙ up_to_take n xs

  -- what stands past them
  pub up_to_drop : (n : ℕ) (xs : List X) → drop n (up_to f n xs) ≡ drop n xs
  unfolding up_to
  up_to_drop zero xs = refl
  up_to_drop (suc n) [] = refl
  up_to_drop (suc n) (x ∷ xs) = up_to_drop n xs

  pub up_to_past : (n i k : ℕ) (xs l : List X) → i ≡ n → k ≡ n → l ≡ up_to f i xs → drop k l ≡ drop n xs
  up_to_past n i k xs l e h q = (λ j. drop (h j) (q j)) ∙ ap (λ (m : ℕ). drop n (up_to f m xs)) e ∙ up_to_drop n xs
