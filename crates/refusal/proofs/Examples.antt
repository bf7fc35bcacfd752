-- The order of the refusals in the papers' numbers, and rows that stand in it or do not, by computing. Assumes nothing.
use mathlib.Core.Path.{◌≡◌, refl}
use mathlib.Core.Bool.{true, false}
use mathlib.Core.List.{[], ◌∷◌, map}
use Rattle.refusal.specs.declared.Refusal.TheVariants.{StateUnsound, LengthOutside, ArgumentOutside, MakerWrong}
use Rattle.refusal.specs.Number.{number_of}
use Rattle.refusal.specs.Order.{order, if, because, first_of, in_order, is_from, from, any}

numbers : map number_of order ≡ 1 ∷ 12 ∷ 13 ∷ 7 ∷ 2 ∷ 3 ∷ 5 ∷ 4 ∷ 11 ∷ 15 ∷ 16 ∷ 17 ∷ 18 ∷ 19 ∷ 8 ∷ 9 ∷ 10 ∷ []
numbers = refl

-- 1 before 12 is the order, 8 before 2 is not
one_twelve : in_order (if true StateUnsound ∷ if true ArgumentOutside ∷ []) ≡ true
unfolding is_from from any
one_twelve = refl

eight-two : in_order (if true MakerWrong ∷ if true LengthOutside ∷ []) ≡ false
unfolding is_from from any
eight-two = refl

-- of two that hold, the first
first : first_of (if false StateUnsound ∷ if true LengthOutside ∷ if true MakerWrong ∷ []) ≡ because LengthOutside
first = refl
