-- Bytes put into a lent area, and what a change of a catalogue answers and leaves.
-- Assumes nothing.
use Rattle.std.specs.Prelude.{ℕ, ◌+◌, List, ◌++◌, length, take, drop, Result, Ok, Err}
use Rattle.refusal.specs.declared.Refusal.{Refusal}
use Rattle.catalogue_rules.specs.Edit.{Change, bytes, no}

-- An area with bytes put at a place; every other byte is as it was.
abbrev pub put_at : List ℕ → ℕ → List ℕ → List ℕ
put_at area at those = take at area ++ (those ++ drop (at + length those) area)

-- How many bytes of the area are the new file, or the refusal.
abbrev pub answer_of : Change → Result ℕ Refusal
answer_of (bytes file) = Ok (length file)
answer_of (no why) = Err why

-- The area begins with the new file and is behind it as it came; a refused call changes no byte.
abbrev pub area_after : Change → List ℕ → List ℕ
area_after (bytes file) area = file ++ drop (length file) area
area_after (no why) area = area
