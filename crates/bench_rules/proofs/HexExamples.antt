-- Digits, computed. Assumes nothing.
use mathlib.Core.Path.{◌≡◌, refl}
use Rattle.bench_rules.specs.Text.{value_of, digit_of}

-- F and f are 15; G and g are no digits
upper_f : value_of 0x46 ≡ 15
unfolding value_of
upper_f = refl

upper_g : value_of 0x47 ≡ 16
unfolding value_of
upper_g = refl

lower_f : value_of 0x66 ≡ 15
unfolding value_of
lower_f = refl

lower_g : value_of 0x67 ≡ 16
unfolding value_of
lower_g = refl

-- 10 is printed as A
ten : digit_of 10 ≡ 0x41
unfolding digit_of
ten = refl
