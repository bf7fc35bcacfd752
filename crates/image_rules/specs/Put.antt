-- What a private function of `image_check` ensures: nobody needs it to believe the line.
-- Assumes nothing.
use Rattle.std.specs.Prelude.{ℕ, ◌+◌, ◌/◌, ◌%◌, List, set}
use Rattle.image_rules.specs.Line.{digit_of}

-- The text with the four hex digits of a word put in from a place on.
abbrev pub with_hex : List ℕ → ℕ → ℕ → List ℕ
with_hex text at word =
    set (set (set (set text at (digit_of (word / 4096))) (at + 1) (digit_of (word / 256 % 16))) (at + 2) (digit_of (word / 16 % 16))) (at + 3) (digit_of (word % 16))
