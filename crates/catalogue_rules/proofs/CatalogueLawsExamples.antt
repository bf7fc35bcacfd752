-- Files read and written, by computing.
-- Assumes nothing.
use Prim.Native.Nat.{ℕ}
use mathlib.Core.Path.{◌≡◌, refl}
use mathlib.Core.List.{List, [], ◌∷◌, ◌++◌}
use lib.ListN.{replicate}
use Rattle.refusal.specs.declared.Refusal.TheVariants.{FieldDamaged, FileEndsEarly, ListedTwice}
use Rattle.catalogue_rules.specs.Field.{Field, field, bytes_of, is_whole, fields_within, fields_of, left_within, left_of}
use Rattle.catalogue_rules.specs.Turns.{address_of, after}
use Rattle.catalogue_rules.specs.Reading.{catalogue, refused, reading, addresses_of, any_twice, read, file_of}
use Rattle.catalogue_rules.specs.Cards.{versions_from, cards_of}

-- A catalogue of no cards.
empty_file : file_of [] ≡ 4 ∷ 2 ∷ 0 ∷ 0 ∷ 0 ∷ []
unfolding file_of bytes_of
empty_file = refl

empty-read : read (4 ∷ 2 ∷ 0 ∷ 0 ∷ 0 ∷ []) ≡ catalogue []
unfolding read reading is_whole fields_within fields_of left_within left_of after addresses_of any_twice
empty-read = refl

-- No byte at all, a cut field, a field cut in its head.
no_byte : read [] ≡ refused FileEndsEarly
unfolding read reading is_whole fields_within fields_of left_within left_of after addresses_of any_twice
no_byte = refl

cut_field : read (9 ∷ 3 ∷ 0 ∷ 1 ∷ 2 ∷ []) ≡ refused FileEndsEarly
unfolding read reading is_whole fields_within fields_of left_within left_of after addresses_of any_twice
cut_field = refl

-- A count off by one, and a byte behind the count.
wrong_count : read (4 ∷ 2 ∷ 0 ∷ 1 ∷ 0 ∷ []) ≡ refused FieldDamaged
unfolding read reading is_whole fields_within fields_of left_within left_of after addresses_of any_twice
wrong_count = refl

byte-behind : read (4 ∷ 2 ∷ 0 ∷ 0 ∷ 0 ∷ 9 ∷ []) ≡ refused FieldDamaged
unfolding read reading is_whole fields_within fields_of left_within left_of after addresses_of any_twice
byte-behind = refl

-- An unknown field is kept in its place.
unknown_kept : read (9 ∷ 1 ∷ 0 ∷ 7 ∷ 4 ∷ 2 ∷ 0 ∷ 1 ∷ 0 ∷ []) ≡ catalogue (field 9 (7 ∷ []) ∷ [])
unfolding read reading is_whole fields_within fields_of left_within left_of after addresses_of any_twice
unknown_kept = refl

-- An address of five bytes; an address with no version.
short-address : read (1 ∷ 5 ∷ 0 ∷ 1 ∷ 2 ∷ 3 ∷ 4 ∷ 5 ∷ 4 ∷ 2 ∷ 0 ∷ 1 ∷ 0 ∷ []) ≡ refused FieldDamaged
unfolding read reading is_whole fields_within fields_of left_within left_of after addresses_of any_twice
short-address = refl

no-version : read (1 ∷ 6 ∷ 0 ∷ 1 ∷ 2 ∷ 3 ∷ 4 ∷ 5 ∷ 6 ∷ 4 ∷ 2 ∷ 0 ∷ 1 ∷ 0 ∷ []) ≡ refused FieldDamaged
unfolding read reading is_whole fields_within fields_of left_within left_of after addresses_of any_twice
no-version = refl

-- A card with two versions, and an unknown field between a number and its image. Numbers that do not rise are damage.
address : List ℕ
address = 0 ∷ 0x20 ∷ 0xAF ∷ 0xC4 ∷ 0x12 ∷ 0xE5 ∷ []

card : ℕ → ℕ → List Field
card one two =
    field 1 address ∷ field 2 (one ∷ 0 ∷ []) ∷ field 3 (replicate 128 0) ∷ field 2 (two ∷ 0 ∷ []) ∷ field 200 [] ∷ field 3 (replicate 128 1) ∷ []

two-versions : read (file_of (card 1 2)) ≡ catalogue (card 1 2)
unfolding file_of bytes_of read reading is_whole fields_within fields_of left_within left_of after addresses_of any_twice card address address_of
two-versions = refl

not-rising : read (file_of (card 2 2)) ≡ refused FieldDamaged
unfolding file_of bytes_of read reading is_whole fields_within fields_of left_within left_of after addresses_of any_twice card address address_of
not-rising = refl

listed_twice_lem : read (file_of (card 1 2 ++ card 1 2)) ≡ refused ListedTwice
unfolding file_of bytes_of read reading is_whole fields_within fields_of left_within left_of after addresses_of any_twice card address address_of
listed_twice_lem = refl

-- What it means.
means : cards_of (card 1 2)
    ≡ record { address = 0x0020AFC412E5; versions = record { number = 1; image = replicate 128 0 } ∷ record { number = 2; image = replicate 128 1 } ∷ [] } ∷ []
unfolding cards_of versions_from card address address_of
means = refl
