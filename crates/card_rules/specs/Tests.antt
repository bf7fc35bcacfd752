-- The refusals of the card's public calls: when each comes, and their order. Assumes nothing.
use Rattle.std.specs.Prelude.{Bool, cond, not, ◌&&◌, ℕ, ◌%◌, ltb, leb, eqb}

-- The order of the refusals: 1 if the state is unsound, then the call's own number; 0 is none.
unfoldable pub judged : Bool → Bool → ℕ → ℕ
judged sound ok number = cond sound (cond ok 0 number) 1

-- 12: register offset above 0Fh, odd offset for a word, a byte access at 00h to 03h in window 1.
abbrev pub is_word : ℕ → Bool
is_word o = leb o 15 && eqb (o % 2) 0

abbrev pub is_byte : ℕ → ℕ → Bool
is_byte window o = leb o 15 && not (ltb o 4 && eqb window 1)

-- 11: a byte or an end without a start, a start inside a frame.
abbrev pub off_wire : ℕ → Bool
off_wire wire = eqb wire 0

abbrev pub on_wire : ℕ → Bool
on_wire wire = not (eqb wire 0)
