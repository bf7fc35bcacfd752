-- What is gathered over the cards one after the other: the bit that the bus carries.
-- Assumes nothing.
use Prim.Native.Nat.{ℕ, ◌≤◌}
use mathlib.Core.List.{List, [], ◌∷◌}
use native.Mathlib.Omega.{arith}
use Rattle.port_rules.specs.declared.IdState.{IdState}
use Rattle.port_rules.specs.Gathered.{port_bit}

-- it is 0 or 1
pub bit_narrow : (p : ℕ) (xs : List IdState) → port_bit p xs ≤ 1
unfolding port_bit
bit_narrow p [] = omega arith
bit_narrow p (x ∷ xs) = omega (arith, bit_narrow p xs)
