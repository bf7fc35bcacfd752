-- Two tests, one after the other, are one test of both. Assumes nothing.
use mathlib.Core.Path.{◌≡◌, refl}
use mathlib.Core.Bool.{Bool, true, false, cond, ◌&&◌}
use Rattle.card_rules.specs.Adapter.{Adapter}

pub one_test : (a b : Bool) (x y : Adapter) → cond a (cond b x y) y ≡ cond (a && b) x y
one_test true b x y = refl
one_test false b x y = refl
