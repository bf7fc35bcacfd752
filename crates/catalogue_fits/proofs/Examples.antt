-- The order of the tests on small files and archives, by computing.
-- Assumes nothing.
use Prim.Native.Nat.{ℕ}
use mathlib.Core.Path.{◌≡◌, refl}
use mathlib.Core.List.{List, [], ◌∷◌, ◌++◌}
use lib.ListN.{replicate}
use Rattle.std.specs.Prelude.{Ok}
use Rattle.refusal.specs.declared.Refusal.TheVariants.{MakerWrong, NoSuchCard, NoPlace}
use Rattle.image_rules.specs.Image.{check_of, word_at, checksum_of, secondary_of, xor_of, both_bytes}
use Rattle.catalogue_rules.specs.Field.{Field, field, is_whole, fields_within, fields_of, left_within, left_of, bytes_of}
use Rattle.catalogue_rules.specs.Turns.{address_of, after}
use Rattle.catalogue_rules.specs.Reading.{file_of, reading, addresses_of, any_twice}
use Rattle.catalogue_rules.specs.Cards.{versions_from, versions_at}
use Rattle.catalogue_rules.specs.Archive.{addresses_in}
use Rattle.catalogue_rules.specs.Edit.{latest_number, images_in, images_within, any_for}
use Rattle.catalogue_rules.specs.Lookup.{span, spots_from, spots_at, last_spot, numbered_spot, latest_in, given_in}
use Rattle.catalogue_fits.specs.Tests.{because, first_of, latest_tests, add_tests, import_tests}
use Rattle.catalogue_fits.specs.Fits.{outcome_of, NothingElseFits}

-- An image whose address ends in a; its word 0Fh has the high byte sum.
image_of : ℕ → ℕ → List ℕ
image_of a sum = 0 ∷ 0 ∷ 0 ∷ 0 ∷ a ∷ 0 ∷ (replicate 8 0 ++ (0x50 ∷ 0x6D ∷ (replicate 15 0 ++ (sum ∷ replicate 96 0))))

-- The card whose address ends in a, with one version of the number low and 256 times high.
card : ℕ → ℕ → ℕ → List Field
card a low high = field 1 (0 ∷ 0 ∷ 0 ∷ 0 ∷ 0 ∷ a ∷ []) ∷ field 2 (low ∷ high ∷ []) ∷ field 3 (replicate 128 0) ∷ []

seven : List ℕ
seven = file_of (card 1 7 0)

-- Listed twice, and no number is left for a new version.
twice : List ℕ
twice = file_of (card 1 255 255 ++ card 1 1 0)

-- Card 1 has version 7 and no version 1: the latest is found.
latest-found : NothingElseFits → outcome_of (Ok (span 17 128)) ≡ first_of (latest_tests seven 1)
unfolding latest_in last_spot given_in numbered_spot spots_at spots_from reading after fields_of left_of fields_within left_within is_whole addresses_of any_twice address_of file_of bytes_of seven card
latest-found all = (all.latest seven 1).exactly (Ok (span 17 128)) refl

-- Card 2 is not listed where card 1 is listed twice: 17 before 19.
missing_before_twice : first_of (latest_tests twice 2) ≡ because NoSuchCard
unfolding reading after fields_of left_of fields_within left_within is_whole addresses_of any_twice address_of file_of bytes_of twice card
missing_before_twice = refl

-- No place for a version of card 1, which is listed twice: 18 before 19.
no_place_before_twice : first_of (add_tests 1000 twice (image_of 1 0x3C)) ≡ because NoPlace
unfolding versions_at versions_from latest_number reading after fields_of left_of fields_within left_within is_whole addresses_of any_twice address_of file_of bytes_of twice card image_of
no_place_before_twice = refl

-- The first image answers 9, the second 8: 8 before 9.
nine_then_eight : first_of (import_tests 295 (image_of 2 0x3E ++ replicate 128 0)) ≡ because MakerWrong
unfolding images_in images_within any_for any_twice addresses_in address_of check_of word_at checksum_of secondary_of xor_of both_bytes image_of
nine_then_eight = refl
