-- TX Free is at most the size. Assumes nothing.
use mathlib.Core.Path.{◌≡◌}
use Prim.Native.Nat.{ℕ, ◌≤◌}
use native.Mathlib.Omega.{arith}
use Rattle.transmit_rules.specs.Queue.{Queue, free}

pub free-le : (size : ℕ) (q : Queue) {n : ℕ} → n ≡ free size q → n ≤ size
unfolding free
free-le size q e = omega arith
