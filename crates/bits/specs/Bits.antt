-- Bits of numbers by their weights 1, 2, 4, .., and bytes of words. Assumes nothing.
use Rattle.std.specs.Prelude.{Bool, true, false, ℕ, ◌+◌, ◌*◌, ◌/◌, ◌%◌, eqb}

abbrev pub has : ℕ → ℕ → Bool
has weight n = eqb (n / weight % 2) 1

abbrev pub weigh : ℕ → Bool → ℕ
weigh weight true = weight
weigh weight false = 0

-- a word with its low byte, or its high byte, replaced
abbrev pub low_byte : ℕ → ℕ → ℕ
low_byte b w = w / 256 * 256 + b

abbrev pub high_byte : ℕ → ℕ → ℕ
high_byte b w = b * 256 + w % 256
