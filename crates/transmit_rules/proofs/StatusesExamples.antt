-- Computed examples of the status stack. Assumes nothing.
use mathlib.Core.Path.{◌≡◌, refl}
use mathlib.Core.List.{[], ◌∷◌}
use Prim.Native.Nat.{◌≤◌}
use native.Mathlib.Omega.{arith}
use Rattle.transmit_rules.specs.declared.Statuses.{Statuses}
use Rattle.transmit_rules.specs.Stack.{added, Room}

-- 88h, and then C0h: the newest comes last
newest-last : added 192 (136 ∷ []) ≡ 136 ∷ 192 ∷ []
newest-last = refl

-- where there is room at most 30 stand, so that there are never more than 31
thirty_one : (s : Statuses) → Room s → s.count ≤ 30
thirty_one s r = omega (arith, r)
