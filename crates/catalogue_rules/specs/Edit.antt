-- Adding a version, dropping the oldest, moving an archive in and out: each as a function on the catalogue's fields.
-- Nothing unknown is lost or read: a new version goes behind everything up to the next card, a new card before the count;
-- the unknown fields of a card that leaves stay where they are.
-- Assumes nothing.
use Rattle.std.specs.Prelude.{ℕ, zero, suc, ◌+◌, ◌*◌, ◌/◌, ◌%◌, Bool, true, false, cond, ◌&&◌, ◌||◌, not, List, [], ◌∷◌, ◌++◌, length, take, drop, eqb, ltb, leb, Result, Ok, Err}
use Rattle.image_rules.specs.declared.Node.{Node}
use Rattle.refusal.specs.declared.Refusal.{Refusal}
use Rattle.refusal.specs.declared.Refusal.TheVariants.{LengthOutside, ArgumentOutside, MakerWrong, ChecksumWrong, SecondaryWrong, NoSuchCard, NoPlace, ListedTwice}
use Rattle.refusal.specs.Number.{number_of}
use Rattle.image_rules.specs.Image.{check_of}
use Rattle.catalogue_rules.specs.Field.{Field, field}
use Rattle.catalogue_rules.specs.Turns.{address_of}
use Rattle.catalogue_rules.specs.Reading.{Reading, catalogue, refused, parsed, read, has_room, addresses_of, is_among, any_twice, file_of}
use Rattle.catalogue_rules.specs.Cards.{Version, versions_from, versions_at}
use Rattle.catalogue_rules.specs.Archive.{address_in, moved_in, moved_out, addresses_in}

-- The bytes to be written, or a refusal.
pub data Change : Type 0 where
  bytes : List ℕ → Change
  no : Refusal → Change

-- The refusal if the test holds.
abbrev pub or_else : Bool → Refusal → Change → Change
or_else true why rest = no why
or_else false why rest = rest

-- The two fields of a version.
abbrev pub version_fields : ℕ → List ℕ → List Field
version_fields n image = field 2 (n % 256 ∷ n / 256 ∷ []) ∷ field 3 image ∷ []

abbrev pub is_card : ℕ → Field → Bool
is_card a f = eqb f.tag 1 && eqb (address_of f.value) a

-- Before the next card, or at the end.
unfoldable pub at_cards_end : List Field → List Field → List Field
at_cards_end new [] = new
at_cards_end new (f ∷ fs) = cond (eqb f.tag 1) (new ++ (f ∷ fs)) (f ∷ at_cards_end new fs)

unfoldable pub with_version : ℕ → List Field → List Field → List Field
with_version a new [] = []
with_version a new (f ∷ fs) = cond (is_card a f) (f ∷ at_cards_end new fs) (f ∷ with_version a new fs)

-- The latest number; 0 where there is none.
unfoldable pub latest_number : List Version → ℕ
latest_number [] = 0
latest_number (v ∷ []) = v.number
latest_number (v ∷ w ∷ vs) = latest_number (w ∷ vs)

-- 8 to 10 for an unsound image.
abbrev pub if_sound : Result Node Refusal → Change → Change
if_sound (Ok node) change = change
if_sound (Err why) change = no why

-- The address of an image's card, as a number.
abbrev pub whose : List ℕ → ℕ
whose image = address_of (address_in image)

-- No room for a version: the card has eight, or its latest number plus 1 or the count of fields goes into no two bytes.
abbrev pub no_version : ℕ → List Field → Bool
no_version a fs = leb 8 (length (versions_at a fs)) || (leb 65535 (latest_number (versions_at a fs)) || ltb 65533 (length fs))

-- No room for a card: 64 are there, or the count of fields goes into no two bytes.
abbrev pub no_card : List Field → Bool
no_card fs = leb 64 (length (addresses_of fs)) || ltb 65532 (length fs)

-- No room in a catalogue for a version of the card at an address.
abbrev pub no_place : ℕ → List Field → Bool
no_place a fs = cond (is_among a (addresses_of fs)) (no_version a fs) (no_card fs)

-- A card that is there gets its latest number plus 1; another begins with 1.
unfoldable pub with_added : List ℕ → List Field → List Field
with_added image fs =
    cond (is_among (whose image) (addresses_of fs))
    (with_version (whose image) (version_fields (latest_number (versions_at (whose image) fs) + 1) image) fs)
    (fs ++ (field 1 (address_in image) ∷ version_fields 1 image))

-- 18 of the file or of the addition, 19, then 8 to 10.
unfoldable pub added_to : List ℕ → List Field → Change
added_to image fs =
    or_else (not (has_room fs) || no_place (whose image) fs) NoPlace
    (or_else (any_twice (addresses_of fs)) ListedTwice
    (if_sound (check_of image)
    (bytes (file_of (with_added image fs)))))

abbrev pub on_catalogue : Reading → (List Field → Change) → Change
on_catalogue (catalogue fs) f = f fs
on_catalogue (refused why) f = no why

-- 12 for an area with fewer than 145 bytes more than the file: a card's first version takes as many. Then 2, 15, 16.
unfoldable pub added : ℕ → List ℕ → List ℕ → Change
added area file image =
    or_else (ltb area (length file + 145)) ArgumentOutside
    (or_else (not (eqb (length image) 128)) LengthOutside
    (on_catalogue (parsed file) (added_to image)))

-- Without the first image; without the first number and its image.
unfoldable pub without_image : List Field → List Field
without_image [] = []
without_image (f ∷ fs) = cond (eqb f.tag 3) fs (f ∷ without_image fs)

unfoldable pub without_oldest : List Field → List Field
without_oldest [] = []
without_oldest (f ∷ fs) = cond (eqb f.tag 2) (without_image fs) (f ∷ without_oldest fs)

-- A card leaves with its last version: its address goes too.
abbrev pub leaves : List Version → Bool
leaves [] = true
leaves (v ∷ []) = true
leaves (v ∷ w ∷ vs) = false

unfoldable pub without_version : ℕ → List Field → List Field
without_version a [] = []
without_version a (f ∷ fs) =
    cond (is_card a f) (cond (leaves (versions_from 0 fs)) (without_oldest fs) (f ∷ without_oldest fs)) (f ∷ without_version a fs)

-- 17, then the file's own 18 and 19.
unfoldable pub dropped_from : ℕ → List Field → Change
dropped_from a fs =
    or_else (not (is_among a (addresses_of fs))) NoSuchCard
    (or_else (not (has_room fs)) NoPlace
    (or_else (any_twice (addresses_of fs)) ListedTwice
    (bytes (file_of (without_version a fs)))))

-- 12 for an area shorter than the file. Then 15, 16.
unfoldable pub dropped : ℕ → List ℕ → ℕ → Change
dropped area file a = or_else (ltb area (length file)) ArgumentOutside (on_catalogue (parsed file) (dropped_from a))

-- The images of an archive.
unfoldable pub images_within : ℕ → List ℕ → List (List ℕ)
images_within zero row = []
images_within (suc n) row = take 128 row ∷ images_within n (drop 128 row)

unfoldable pub images_in : List ℕ → List (List ℕ)
images_in row = images_within (length row / 128) row

-- One of the images answers this refusal.
abbrev pub is_for : Refusal → Result Node Refusal → Bool
is_for why (Ok node) = false
is_for why (Err other) = eqb (number_of other) (number_of why)

unfoldable pub any_for : Refusal → List (List ℕ) → Bool
any_for why [] = false
any_for why (image ∷ images) = is_for why (check_of image) || any_for why images

-- 8, 9, 10: the table's order wins over that of the images.
unfoldable pub all_sound : List (List ℕ) → Change → Change
all_sound images change =
    or_else (any_for MakerWrong images) MakerWrong
    (or_else (any_for ChecksumWrong images) ChecksumWrong
    (or_else (any_for SecondaryWrong images) SecondaryWrong change))

-- 12 for an area too short for so many images; 2 where a piece of another length is left; then 18, 19, 8 to 10.
unfoldable pub imported : ℕ → List ℕ → Change
imported area row =
    or_else (ltb area (145 * (length row / 128) + 5)) ArgumentOutside
    (or_else (not (eqb (length row % 128) 0)) LengthOutside
    (or_else (ltb 64 (length row / 128)) NoPlace
    (or_else (any_twice (addresses_in (images_in row))) ListedTwice
    (all_sound (images_in row) (bytes (file_of (moved_in (images_in row))))))))

-- 12 for an area under 8,192 bytes, the images of 64 cards. Then 15, 16, 18, 19.
unfoldable pub exported : ℕ → List ℕ → Change
exported area file = or_else (ltb area 8192) ArgumentOutside (on_catalogue (read file) (λ fs. bytes (moved_out fs)))
