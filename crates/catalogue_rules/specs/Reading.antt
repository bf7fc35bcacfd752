-- A catalogue's file: how it is read, and how it is written.
-- A catalogue is the list of its fields before the count, unknown ones in their places.
-- Assumes nothing.
use Rattle.std.specs.Prelude.{ℕ, ◌+◌, ◌/◌, ◌%◌, Bool, true, false, cond, ◌&&◌, ◌||◌, List, [], ◌∷◌, ◌++◌, length, eqb, leb, Result, Ok, Err}
use Rattle.catalogue_rules.specs.declared.Counts.{Counts}
use Rattle.refusal.specs.declared.Refusal.{Refusal}
use Rattle.refusal.specs.declared.Refusal.TheVariants.{FieldDamaged, FileEndsEarly, NoPlace, ListedTwice}
use Rattle.catalogue_rules.specs.Field.{Field, field, number_at, bytes_of, fields_of, left_of}
use Rattle.catalogue_rules.specs.declared.Turn.{Turn}
use Rattle.catalogue_rules.specs.declared.Turn.TheVariants.{Begun}
use Rattle.catalogue_rules.specs.Turns.{address_of, after, may_end, is_damaged}

-- Tag 4, the count of the fields before it (2 bytes), last.
abbrev pub count_field : ℕ → Field
count_field n = field 4 (n % 256 ∷ n / 256 ∷ [])

-- A catalogue's file.
unfoldable pub file_of : List Field → List ℕ
file_of fs = bytes_of (fs ++ (count_field (length fs) ∷ []))

-- What a file is read as.
pub data Reading : Type 0 where
  catalogue : List Field → Reading
  refused : Refusal → Reading

abbrev pub with : Field → Reading → Reading
with f (catalogue fs) = catalogue (f ∷ fs)
with f (refused why) = refused why

-- The count: in turn, of two bytes, right, and last.
abbrev pub is_last : List Field → List ℕ → Bool
is_last [] [] = true
is_last [] (b ∷ left) = false
is_last (f ∷ fs) left = false

abbrev pub ends : Turn → ℕ → Field → Bool → Bool
ends turn n f last = may_end turn && (eqb (length f.value) 2 && (eqb (number_at f.value 0) n && last))

-- The fields in their order, behind n fields before them, and what is left when no whole field is.
-- Damage comes first: a field out of turn, a wrong length, a wrong count, anything behind the count.
-- A cut field or no count is an early end.
unfoldable pub reading : Turn → ℕ → List Field → List ℕ → Reading
reading turn n [] left = refused FileEndsEarly
reading turn n (f ∷ fs) left =
    cond (eqb f.tag 4) (cond (ends turn n f (is_last fs left)) (catalogue []) (refused FieldDamaged))
    (cond (is_damaged (after turn f)) (refused FieldDamaged) (with f (reading (after turn f) (n + 1) fs left)))

-- The addresses of the cards, in their order.
unfoldable pub addresses_of : List Field → List ℕ
addresses_of [] = []
addresses_of (f ∷ fs) = cond (eqb f.tag 1) (address_of f.value ∷ addresses_of fs) (addresses_of fs)

abbrev pub is_among : ℕ → List ℕ → Bool
is_among a [] = false
is_among a (b ∷ those) = eqb b a || is_among a those

unfoldable pub any_twice : List ℕ → Bool
any_twice [] = false
any_twice (a ∷ those) = is_among a those || any_twice those

-- The fields of a file in their turns, with a right count behind them; 15 or 16 where they are not.
-- It may still have too many cards or list one twice: 18 and 19 come behind a call's own 17.
abbrev pub parsed : List ℕ → Reading
parsed file = reading Begun 0 (fields_of file) (left_of file)

-- At most 64 cards.
abbrev pub has_room : List Field → Bool
has_room fs = leb (length (addresses_of fs)) 64

-- 18 for more cards than that, then 19 for an address that is listed twice.
abbrev pub roomy : Reading → Reading
roomy (catalogue fs) = cond (has_room fs) (cond (any_twice (addresses_of fs)) (refused ListedTwice) (catalogue fs)) (refused NoPlace)
roomy (refused why) = refused why

-- A file, read: a sound one.
unfoldable pub read : List ℕ → Reading
read file = roomy (parsed file)

abbrev pub counts : ℕ → ℕ → Counts
counts c n = record { cards = c; fields = n }

-- What the check of a file answers: how many cards and fields, or the refusal.
abbrev pub judged : Reading → Result Counts Refusal
judged (catalogue fs) = Ok (counts (length (addresses_of fs)) (length fs))
judged (refused why) = Err why
