-- Changes of small catalogues, by computing; short images stand in where none is tested.
-- Assumes nothing.
use Prim.Native.Nat.{ℕ, zero, suc, ◌+◌}
use mathlib.Core.Path.{◌≡◌, refl}
use mathlib.Core.List.{List, [], ◌∷◌, ◌++◌}
use lib.ListN.{length, replicate}
use Rattle.refusal.specs.declared.Refusal.{Refusal}
use Rattle.refusal.specs.declared.Refusal.TheVariants.{ArgumentOutside, MakerWrong, ChecksumWrong, NoSuchCard, NoPlace, ListedTwice}
use Rattle.image_rules.specs.Image.{check_of, word_at, checksum_of, secondary_of, xor_of, both_bytes}
use Rattle.catalogue_rules.specs.Field.{Field, field, is_whole, fields_within, fields_of, left_within, left_of, bytes_of}
use Rattle.catalogue_rules.specs.Turns.{address_of, after}
use Rattle.catalogue_rules.specs.Reading.{file_of, reading, read, addresses_of, any_twice}
use Rattle.catalogue_rules.specs.Cards.{versions_from, versions_at, cards_of}
use Rattle.catalogue_rules.specs.Archive.{addresses_in, moved_in, row_of, images_of}
use Rattle.catalogue_rules.specs.Edit.{Change, bytes, no, version_fields, at_cards_end, with_version, latest_number, without_image, without_oldest, without_version, with_added, added_to, added, dropped_from, images_in, images_within, any_for, all_sound, imported, exported}

-- Two cards, with an unknown field behind the first one's image.
one : List ℕ
one = 0 ∷ 0 ∷ 0 ∷ 0 ∷ 0 ∷ 1 ∷ []

two : List ℕ
two = 0 ∷ 0 ∷ 0 ∷ 0 ∷ 0 ∷ 2 ∷ []

cards : List Field
cards =
    field 1 one ∷ field 2 (7 ∷ 0 ∷ []) ∷ field 3 (70 ∷ []) ∷ field 99 (5 ∷ []) ∷ field 1 two ∷ field 2 (1 ∷ 0 ∷ []) ∷ field 3 (10 ∷ []) ∷ []

-- A new version goes behind the unknown field, before the next card; its number is the latest plus 1.
latest-number : latest_number (versions_at 1 cards) ≡ 7
unfolding latest_number versions_at versions_from cards one two address_of
latest-number = refl

version-added : with_version 1 (version_fields 8 (80 ∷ [])) cards
    ≡ field 1 one ∷ field 2 (7 ∷ 0 ∷ []) ∷ field 3 (70 ∷ []) ∷ field 99 (5 ∷ []) ∷ field 2 (8 ∷ 0 ∷ []) ∷ field 3 (80 ∷ [])
    ∷ field 1 two ∷ field 2 (1 ∷ 0 ∷ []) ∷ field 3 (10 ∷ []) ∷ []
unfolding with_version at_cards_end cards one two address_of
version-added = refl

-- The card leaves with its last version, and the unknown field stays.
card-gone : without_version 1 cards ≡ field 99 (5 ∷ []) ∷ field 1 two ∷ field 2 (1 ∷ 0 ∷ []) ∷ field 3 (10 ∷ []) ∷ []
unfolding without_version without_oldest without_image versions_from cards one two address_of
card-gone = refl

-- Unknown fields before a number and between it and its image stay too.
unknown_kept : without_oldest (field 98 (4 ∷ []) ∷ field 2 (7 ∷ 0 ∷ []) ∷ field 99 (5 ∷ []) ∷ field 3 (70 ∷ []) ∷ [])
    ≡ field 98 (4 ∷ []) ∷ field 99 (5 ∷ []) ∷ []
unfolding without_oldest without_image
unknown_kept = refl

-- Of two versions the oldest goes, and the card stays.
oldest-gone : without_version 1 (with_version 1 (version_fields 8 (80 ∷ [])) cards)
    ≡ field 1 one ∷ field 99 (5 ∷ []) ∷ field 2 (8 ∷ 0 ∷ []) ∷ field 3 (80 ∷ []) ∷ field 1 two ∷ field 2 (1 ∷ 0 ∷ []) ∷ field 3 (10 ∷ []) ∷ []
unfolding without_version without_oldest without_image versions_from with_version at_cards_end cards one two address_of
oldest-gone = refl

-- ---- the calls, with their refusals

-- A sound image whose address ends in a; its word 0Fh has the high byte sum.
image_of : ℕ → ℕ → List ℕ
image_of a sum = 0 ∷ 0 ∷ 0 ∷ 0 ∷ a ∷ 0 ∷ (replicate 8 0 ++ (0x50 ∷ 0x6D ∷ (replicate 15 0 ++ (sum ∷ replicate 96 0))))

image_one : List ℕ
unfolding image_of
image_one = image_of 1 0x3C

image_two : List ℕ
unfolding image_of
image_two = image_of 2 0x3F

-- Cards so many, with addresses from 1 on; versions so many, of the card at 1. Their images are short.
cards_up_to : ℕ → List Field
cards_up_to zero = []
cards_up_to (suc n) = field 1 (0 ∷ 0 ∷ 0 ∷ 0 ∷ 0 ∷ suc n ∷ []) ∷ field 2 (1 ∷ 0 ∷ []) ∷ field 3 [] ∷ cards_up_to n

versions_up_from : ℕ → ℕ → List Field
versions_up_from n zero = []
versions_up_from n (suc more) = field 2 (n ∷ 0 ∷ []) ∷ field 3 [] ∷ versions_up_from (n + 1) more

-- How many bytes a change has, or the refusal.
data Size : Type 0 where
  long : ℕ → Size
  why : Refusal → Size

size : Change → Size
size (bytes b) = long (length b)
size (no r) = why r

-- A 64th card is added, a 65th has no place.
card_64 : size (added_to (image_of 64 0x7D) (cards_up_to 63)) ≡ long 1221
unfolding size added_to with_added any_twice addresses_of address_of versions_at versions_from latest_number with_version at_cards_end file_of bytes_of check_of word_at checksum_of secondary_of xor_of both_bytes image_of cards_up_to
card_64 = refl

card_65 : size (added_to (image_of 65 0x7C) (cards_up_to 64)) ≡ why NoPlace
unfolding size added_to with_added any_twice addresses_of address_of versions_at versions_from latest_number with_version at_cards_end file_of bytes_of check_of word_at checksum_of secondary_of xor_of both_bytes image_of cards_up_to
card_65 = refl

-- An eighth version is added, a ninth has no place.
version_8 : size (added_to image_one (field 1 one ∷ versions_up_from 1 7)) ≡ long 206
unfolding size added_to with_added any_twice addresses_of address_of versions_at versions_from latest_number with_version at_cards_end file_of bytes_of check_of word_at checksum_of secondary_of xor_of both_bytes image_one image_of versions_up_from one
version_8 = refl

version_9 : size (added_to image_one (field 1 one ∷ versions_up_from 1 8)) ≡ why NoPlace
unfolding size added_to with_added any_twice addresses_of address_of versions_at versions_from latest_number with_version at_cards_end file_of bytes_of check_of word_at checksum_of secondary_of xor_of both_bytes image_one image_of versions_up_from one
version_9 = refl

-- The number 7 is followed by 8.
number_8 : added_to image_one (field 1 one ∷ field 2 (7 ∷ 0 ∷ []) ∷ field 3 [] ∷ [])
    ≡ bytes (file_of (field 1 one ∷ field 2 (7 ∷ 0 ∷ []) ∷ field 3 [] ∷ field 2 (8 ∷ 0 ∷ []) ∷ field 3 image_one ∷ []))
unfolding added_to with_added any_twice addresses_of address_of versions_at versions_from latest_number with_version at_cards_end file_of bytes_of check_of word_at checksum_of secondary_of xor_of both_bytes image_one image_of one
number_8 = refl

-- A first version takes 145 bytes more than the file, here the 5 of the count.
area_of_150 : size (added 150 (file_of []) image_one) ≡ long 150
unfolding size added added_to with_added reading any_twice fields_of left_of fields_within left_within is_whole after addresses_of address_of versions_at versions_from latest_number with_version at_cards_end file_of bytes_of check_of word_at checksum_of secondary_of xor_of both_bytes image_one image_of
area_of_150 = refl

area_of_149 : size (added 149 (file_of []) image_one) ≡ why ArgumentOutside
unfolding size added added_to with_added reading any_twice fields_of left_of fields_within left_within is_whole after addresses_of address_of versions_at versions_from latest_number with_version at_cards_end file_of bytes_of check_of word_at checksum_of secondary_of xor_of both_bytes image_one image_of
area_of_149 = refl

-- The file without card 1: four fields are left, and counted. A card that is not there is not dropped.
card_1_dropped : dropped_from 1 cards
    ≡ bytes (99 ∷ 1 ∷ 0 ∷ 5 ∷ 1 ∷ 6 ∷ 0 ∷ 0 ∷ 0 ∷ 0 ∷ 0 ∷ 0 ∷ 2 ∷ 2 ∷ 2 ∷ 0 ∷ 1 ∷ 0 ∷ 3 ∷ 1 ∷ 0 ∷ 10 ∷ 4 ∷ 2 ∷ 0 ∷ 4 ∷ 0 ∷ [])
unfolding dropped_from addresses_of any_twice without_version without_oldest without_image versions_from file_of bytes_of cards one two address_of
card_1_dropped = refl

card_3_dropped : dropped_from 3 cards ≡ no NoSuchCard
unfolding dropped_from addresses_of any_twice without_version without_oldest without_image versions_from file_of bytes_of cards one two address_of
card_3_dropped = refl

-- ---- the order of the refusals

-- Card 2 is listed twice. Card 1, not listed, is not dropped: 17 before 19. Card 2 is: 19.
two_twice : List Field
two_twice = field 1 two ∷ field 2 (1 ∷ 0 ∷ []) ∷ field 3 [] ∷ field 1 two ∷ field 2 (1 ∷ 0 ∷ []) ∷ field 3 [] ∷ []

missing_before_twice : dropped_from 1 two_twice ≡ no NoSuchCard
unfolding dropped_from addresses_of any_twice address_of two_twice two
missing_before_twice = refl

twice_dropped : dropped_from 2 two_twice ≡ no ListedTwice
unfolding dropped_from addresses_of any_twice address_of two_twice two
twice_dropped = refl

-- A card that is not among 65 is not dropped: 17 before 18. One that is among them: 18.
missing_before_crowded : dropped_from 66 (cards_up_to 65) ≡ no NoSuchCard
unfolding dropped_from addresses_of any_twice address_of cards_up_to
missing_before_crowded = refl

crowded_dropped : dropped_from 65 (cards_up_to 65) ≡ no NoPlace
unfolding dropped_from addresses_of any_twice address_of cards_up_to
crowded_dropped = refl

-- A ninth version of card 1 beside a card 2 that is listed twice: 18 before 19. An eighth: 19.
ninth_before_twice : size (added_to image_one ((field 1 one ∷ versions_up_from 1 8) ++ two_twice)) ≡ why NoPlace
unfolding size added_to any_twice addresses_of address_of versions_at versions_from latest_number image_one image_of versions_up_from one two_twice two
ninth_before_twice = refl

eighth_beside_twice : size (added_to image_one ((field 1 one ∷ versions_up_from 1 7) ++ two_twice)) ≡ why ListedTwice
unfolding size added_to any_twice addresses_of address_of versions_at versions_from latest_number image_one image_of versions_up_from one two_twice two
eighth_beside_twice = refl

-- A version of a card that is one of 65 has no place, whatever else.
crowded_added : size (added_to image_one (cards_up_to 65)) ≡ why NoPlace
unfolding size added_to any_twice addresses_of address_of versions_at versions_from latest_number image_one image_of cards_up_to
crowded_added = refl

-- An unsound image beside a card that is listed twice: 19 before 9.
twice_before_unsound : size (added_to (image_of 1 0) two_twice) ≡ why ListedTwice
unfolding size added_to any_twice addresses_of address_of versions_at versions_from latest_number image_of two_twice two
twice_before_unsound = refl

-- An archive takes 145 bytes to an image and 5 for the count.
import_150 : size (imported 150 image_one) ≡ long 150
unfolding size imported images_in images_within all_sound any_for any_twice addresses_in moved_in address_of file_of bytes_of check_of word_at checksum_of secondary_of xor_of both_bytes image_one image_of
import_150 = refl

import_149 : size (imported 149 image_one) ≡ why ArgumentOutside
unfolding size imported images_in images_within all_sound any_for any_twice addresses_in moved_in address_of file_of bytes_of check_of word_at checksum_of secondary_of xor_of both_bytes image_one image_of
import_149 = refl

-- The last image has the address of the first; the last image is unsound; 65 images.
last_twice : size (imported 440 (image_one ++ (image_two ++ image_one))) ≡ why ListedTwice
unfolding size imported images_in images_within all_sound any_for any_twice addresses_in moved_in address_of file_of bytes_of check_of word_at checksum_of secondary_of xor_of both_bytes image_one image_two image_of
last_twice = refl

last-unsound : size (imported 295 (image_one ++ image_of 2 0x3E)) ≡ why ChecksumWrong
unfolding size imported images_in images_within all_sound any_for any_twice addresses_in moved_in address_of file_of bytes_of check_of word_at checksum_of secondary_of xor_of both_bytes image_one image_of
last-unsound = refl

-- The first image answers 9 and the second 8, or the other way round: 8 wins.
nine_then_eight : size (imported 295 (image_of 2 0x3E ++ replicate 128 0)) ≡ why MakerWrong
unfolding size imported images_in images_within all_sound any_for any_twice addresses_in address_of check_of word_at checksum_of secondary_of xor_of both_bytes image_of
nine_then_eight = refl

eight_then_nine : size (imported 295 (replicate 128 0 ++ image_of 2 0x3E)) ≡ why MakerWrong
unfolding size imported images_in images_within all_sound any_for any_twice addresses_in address_of check_of word_at checksum_of secondary_of xor_of both_bytes image_of
eight_then_nine = refl

images_65 : imported 9430 (replicate 8320 0) ≡ no NoPlace
unfolding imported
images_65 = refl

-- An export asks for 8,192 bytes, even for no card.
export_8192 : size (exported 8192 (file_of [])) ≡ long 0
unfolding size exported row_of images_of cards_of read reading addresses_of any_twice fields_of left_of fields_within left_within is_whole after file_of bytes_of
export_8192 = refl

export_8191 : size (exported 8191 (file_of [])) ≡ why ArgumentOutside
unfolding size exported row_of images_of cards_of read reading addresses_of any_twice fields_of left_of fields_within left_within is_whole after file_of bytes_of
export_8191 = refl
