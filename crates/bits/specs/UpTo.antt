-- A list whose first i elements were stepped by f: what a loop that steps each element in place has after i turns.
-- Assumes nothing.
use Rattle.std.specs.Prelude.{ℕ, zero, suc, List, [], ◌∷◌}

module _ {X : Type 0} (f : X → X) where
  unfoldable pub up_to : ℕ → List X → List X
  up_to zero xs = xs
  up_to (suc i) [] = []
  up_to (suc i) (x ∷ xs) = f x ∷ up_to i xs
