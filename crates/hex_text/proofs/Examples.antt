-- Where a word ends, computed. Assumes nothing.
use mathlib.Core.Path.{◌≡◌, refl}
use Rattle.bench_rules.specs.Text.{none, value_of, digit_of, valued, read_on, number_of, word_text}

-- FFFFh, the last of four digits
four_digits : number_of 16 (word_text 0xFFFF) ≡ 0xFFFF
unfolding number_of read_on valued value_of digit_of
four_digits = refl

-- 10001h has five: four digits cannot tell it
five_digits : number_of 16 (word_text 0x10001) ≡ none
unfolding number_of read_on valued value_of digit_of
five_digits = refl
