-- Tests joined by and and by or, and choices by a test.
-- Assumes nothing.
use mathlib.Core.Path.{◌≡◌, refl}
use mathlib.Core.Bool.{Bool, true, false, cond, ◌&&◌, ◌||◌, false≢true, true≢false}

pub and_left : (a b : Bool) → a && b ≡ true → a ≡ true
and_left true b e = refl
and_left false b e = e

pub and_right : (a b : Bool) → a && b ≡ true → b ≡ true
and_right true b e = e
and_right false b e = absurd (false≢true e)

pub and_no : (a b : Bool) → a ≡ false → a && b ≡ false
and_no a b e = rw e

pub and_yes : (a b c : Bool) → a ≡ true → b ≡ c → a && b ≡ c
and_yes a b c e f = rw e f

pub or_yes : (a b : Bool) → a ≡ true → a || b ≡ true
or_yes a b e = rw e

pub or_no : (a b : Bool) → a ≡ false → a || b ≡ b
or_no a b e = rw e

pub or_second : (a b : Bool) → b ≡ true → a || b ≡ true
or_second true b e = refl
or_second false b e = e

pub or_left : (a b : Bool) → a || b ≡ false → a ≡ false
or_left true b e = absurd (true≢false e)
or_left false b e = refl

pub or_right : (a b : Bool) → a || b ≡ false → b ≡ false
or_right true b e = absurd (true≢false e)
or_right false b e = e

pub yes_if : {A : Type 0} (b : Bool) (x y : A) → b ≡ true → cond b x y ≡ x
yes_if b x y e = rw e

pub no-if : {A : Type 0} (b : Bool) (x y : A) → b ≡ false → cond b x y ≡ y
no-if b x y e = rw e

-- Past two tests.
pub passes : {A : Type 0} (a b : Bool) (x y z : A) → a ≡ false → b ≡ false → cond a x (cond b y z) ≡ z
passes a b x y z e f = rw (e, f)
