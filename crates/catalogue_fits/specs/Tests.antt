-- The tests of each call of the catalogue in the order of request 9: 12, 2, then 15, 16, 17, 18, 19, then 8, 9, 10.
-- Assumes nothing.
use Rattle.std.specs.Prelude.{ℕ, ◌+◌, ◌*◌, ◌/◌, ◌%◌, Bool, false, ◌&&◌, ◌||◌, not, List, [], ◌∷◌, length, eqb, ltb}
use Rattle.refusal.specs.declared.Refusal.{Refusal}
use Rattle.refusal.specs.declared.Refusal.TheVariants.{LengthOutside, MakerWrong, ChecksumWrong, SecondaryWrong, ArgumentOutside, FieldDamaged, FileEndsEarly, NoSuchCard, NoPlace, ListedTwice}
use Rattle.refusal.specs.Number.{number_of}
-- a test, a row of them, and the first that holds
pub use Rattle.refusal.specs.Order.{Test, if, Outcome, fine, because, first_of}
use Rattle.image_rules.specs.Image.{check_of}
use Rattle.catalogue_rules.specs.Field.{Field}
use Rattle.catalogue_rules.specs.Reading.{Reading, catalogue, refused, parsed, has_room, addresses_of, is_among, any_twice}
use Rattle.catalogue_rules.specs.Cards.{Version, versions_at}
use Rattle.catalogue_rules.specs.Archive.{addresses_in}
use Rattle.catalogue_rules.specs.Edit.{whose, no_place, is_for, any_for, images_in}

-- What a file is read as: refused for this reason; its fields, none where it is refused.
abbrev pub is_no : Refusal → Reading → Bool
is_no why (catalogue fs) = false
is_no why (refused other) = eqb (number_of other) (number_of why)

abbrev pub fields_in : Reading → List Field
fields_in (catalogue fs) = fs
fields_in (refused why) = []

-- One of the versions has the number.
unfoldable pub is_numbered : ℕ → List Version → Bool
is_numbered n [] = false
is_numbered n (v ∷ vs) = eqb v.number n || is_numbered n vs

-- The check of a file.
abbrev pub check_tests : List ℕ → List Test
check_tests file =
    if (is_no FieldDamaged (parsed file)) FieldDamaged
    ∷ if (is_no FileEndsEarly (parsed file)) FileEndsEarly
    ∷ if (not (has_room (fields_in (parsed file)))) NoPlace
    ∷ if (any_twice (addresses_of (fields_in (parsed file)))) ListedTwice
    ∷ []

-- Latest version of a card, and a given one.
abbrev pub latest_tests : List ℕ → ℕ → List Test
latest_tests file a =
    if (is_no FieldDamaged (parsed file)) FieldDamaged
    ∷ if (is_no FileEndsEarly (parsed file)) FileEndsEarly
    ∷ if (not (is_among a (addresses_of (fields_in (parsed file))))) NoSuchCard
    ∷ if (not (has_room (fields_in (parsed file)))) NoPlace
    ∷ if (any_twice (addresses_of (fields_in (parsed file)))) ListedTwice
    ∷ []

abbrev pub given_tests : List ℕ → ℕ → ℕ → List Test
given_tests file a n =
    if (is_no FieldDamaged (parsed file)) FieldDamaged
    ∷ if (is_no FileEndsEarly (parsed file)) FileEndsEarly
    ∷ if (not (is_numbered n (versions_at a (fields_in (parsed file))))) NoSuchCard
    ∷ if (not (has_room (fields_in (parsed file)))) NoPlace
    ∷ if (any_twice (addresses_of (fields_in (parsed file)))) ListedTwice
    ∷ []

-- Lookup: the main file is looked at where the override lacks the card, and then 18 and 19 go by both.
abbrev pub lookup_tests : List ℕ → List ℕ → ℕ → List Test
lookup_tests own main a =
    if (is_no FieldDamaged (parsed own)) FieldDamaged
    ∷ if (is_no FileEndsEarly (parsed own)) FileEndsEarly
    ∷ if (not (is_among a (addresses_of (fields_in (parsed own)))) && is_no FieldDamaged (parsed main)) FieldDamaged
    ∷ if (not (is_among a (addresses_of (fields_in (parsed own)))) && is_no FileEndsEarly (parsed main)) FileEndsEarly
    ∷ if (not (is_among a (addresses_of (fields_in (parsed own)))) && not (is_among a (addresses_of (fields_in (parsed main))))) NoSuchCard
    ∷ if (not (has_room (fields_in (parsed own))) || (not (is_among a (addresses_of (fields_in (parsed own)))) && not (has_room (fields_in (parsed main))))) NoPlace
    ∷ if (any_twice (addresses_of (fields_in (parsed own))) || (not (is_among a (addresses_of (fields_in (parsed own)))) && any_twice (addresses_of (fields_in (parsed main))))) ListedTwice
    ∷ []

-- The changes, with the area's length.
abbrev pub add_tests : ℕ → List ℕ → List ℕ → List Test
add_tests area file image =
    if (ltb area (length file + 145)) ArgumentOutside
    ∷ if (not (eqb (length image) 128)) LengthOutside
    ∷ if (is_no FieldDamaged (parsed file)) FieldDamaged
    ∷ if (is_no FileEndsEarly (parsed file)) FileEndsEarly
    ∷ if (not (has_room (fields_in (parsed file))) || no_place (whose image) (fields_in (parsed file))) NoPlace
    ∷ if (any_twice (addresses_of (fields_in (parsed file)))) ListedTwice
    ∷ if (is_for MakerWrong (check_of image)) MakerWrong
    ∷ if (is_for ChecksumWrong (check_of image)) ChecksumWrong
    ∷ if (is_for SecondaryWrong (check_of image)) SecondaryWrong
    ∷ []

abbrev pub drop_tests : ℕ → List ℕ → ℕ → List Test
drop_tests area file a = if (ltb area (length file)) ArgumentOutside ∷ latest_tests file a

abbrev pub import_tests : ℕ → List ℕ → List Test
import_tests area row =
    if (ltb area (145 * (length row / 128) + 5)) ArgumentOutside
    ∷ if (not (eqb (length row % 128) 0)) LengthOutside
    ∷ if (ltb 64 (length row / 128)) NoPlace
    ∷ if (any_twice (addresses_in (images_in row))) ListedTwice
    ∷ if (any_for MakerWrong (images_in row)) MakerWrong
    ∷ if (any_for ChecksumWrong (images_in row)) ChecksumWrong
    ∷ if (any_for SecondaryWrong (images_in row)) SecondaryWrong
    ∷ []

abbrev pub export_tests : ℕ → List ℕ → List Test
export_tests area file = if (ltb area 8192) ArgumentOutside ∷ check_tests file
