-- Places in a catalogue's file, as the lengths of the fields before them.
-- Assumes nothing.
use Rattle.std.specs.Prelude.{ℕ, ◌+◌, Bool, true, false, cond, ◌||◌, List, [], ◌∷◌, eqb, Option, Some, None}
use Rattle.catalogue_rules.specs.Field.{Field, size_of}
use Rattle.catalogue_rules.specs.Edit.{is_card}

-- Up to behind the address of a card.
unfoldable pub card_place : ℕ → List Field → ℕ
card_place a [] = 0
card_place a (f ∷ fs) = cond (is_card a f) (size_of f) (size_of f + card_place a fs)

-- Up to the next card, or to the count.
unfoldable pub card_end : List Field → ℕ
card_end [] = 0
card_end (f ∷ fs) = cond (eqb f.tag 1 || eqb f.tag 4) 0 (size_of f + card_end fs)

-- Up to the first field with a tag.
unfoldable pub field_place : ℕ → List Field → ℕ
field_place t [] = 0
field_place t (f ∷ fs) = cond (eqb f.tag t) 0 (size_of f + field_place t fs)

-- Where a card's fields begin, if it is there.
abbrev pub seek_if : Bool → ℕ → Option ℕ
seek_if true place = Some place
seek_if false place = None
