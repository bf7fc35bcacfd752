-- Small files, read by computing. Assumes nothing.
use Prim.Native.Nat.{ℕ, zero, suc, ◌+◌}
use mathlib.Core.Path.{◌≡◌, refl}
use mathlib.Core.List.{List, [], ◌∷◌, ◌++◌}
use lib.ListN.{replicate}
use Rattle.std.specs.Prelude.{Ok, Err}
use Rattle.refusal.specs.declared.Refusal.TheVariants.{FieldDamaged, FileEndsEarly, NoPlace, ListedTwice}
use Rattle.catalogue_rules.specs.Field.{Field, field, is_whole, fields_within, fields_of, left_within, left_of, bytes_of}
use Rattle.catalogue_rules.specs.Turns.{address_of, after}
use Rattle.catalogue_rules.specs.Reading.{catalogue, file_of, reading, addresses_of, any_twice, roomy, read, judged, counts}

-- The card whose address ends in a.
card : ℕ → Field
card a = field 1 (0 ∷ 0 ∷ 0 ∷ 0 ∷ 0 ∷ a ∷ [])

number : ℕ → Field
number n = field 2 (n ∷ 0 ∷ [])

image : Field
image = field 3 (replicate 128 0)

-- Versions from a number on, so many.
versions : ℕ → ℕ → List Field
versions n zero = []
versions n (suc more) = number n ∷ image ∷ versions (n + 1) more

-- One card with version 1: its bytes, with the count and with what stands behind it.
one_bytes : List ℕ
one_bytes = 1 ∷ 6 ∷ 0 ∷ 0 ∷ 0 ∷ 0 ∷ 0 ∷ 0 ∷ 1 ∷ 2 ∷ 2 ∷ 0 ∷ 1 ∷ 0 ∷ 3 ∷ 128 ∷ 0 ∷ replicate 128 0

one : List ℕ → List ℕ
one end = one_bytes ++ end

one-card : read (one (4 ∷ 2 ∷ 0 ∷ 3 ∷ 0 ∷ [])) ≡ catalogue (card 1 ∷ number 1 ∷ image ∷ [])
unfolding read reading addresses_of any_twice address_of after fields_of left_of fields_within left_within is_whole one one_bytes card number image
one-card = refl

one_written : file_of (card 1 ∷ number 1 ∷ image ∷ []) ≡ one (4 ∷ 2 ∷ 0 ∷ 3 ∷ 0 ∷ [])
unfolding file_of bytes_of one one_bytes card number image
one_written = refl

-- A count of 2 or 4 fields, or one more byte behind the count, is damage; a file without a count ends early.
counts_2 : judged (read (one (4 ∷ 2 ∷ 0 ∷ 2 ∷ 0 ∷ []))) ≡ Err FieldDamaged
unfolding read reading addresses_of any_twice address_of after fields_of left_of fields_within left_within is_whole one one_bytes
counts_2 = refl

counts_4 : judged (read (one (4 ∷ 2 ∷ 0 ∷ 4 ∷ 0 ∷ []))) ≡ Err FieldDamaged
unfolding read reading addresses_of any_twice address_of after fields_of left_of fields_within left_within is_whole one one_bytes
counts_4 = refl

byte-behind : judged (read (one (4 ∷ 2 ∷ 0 ∷ 3 ∷ 0 ∷ 9 ∷ []))) ≡ Err FieldDamaged
unfolding read reading addresses_of any_twice address_of after fields_of left_of fields_within left_within is_whole one one_bytes
byte-behind = refl

no-count : judged (read (one [])) ≡ Err FileEndsEarly
unfolding read reading addresses_of any_twice address_of after fields_of left_of fields_within left_within is_whole one one_bytes
no-count = refl

-- A field of tag 99 stays in its place.
unknown_stays : read (99 ∷ 1 ∷ 0 ∷ 5 ∷ 4 ∷ 2 ∷ 0 ∷ 1 ∷ 0 ∷ []) ≡ catalogue (field 99 (5 ∷ []) ∷ [])
unfolding read reading addresses_of any_twice address_of after fields_of left_of fields_within left_within is_whole
unknown_stays = refl

-- Eight versions of a card are read, a ninth is damage.
eight : judged (read (file_of (card 1 ∷ versions 1 8))) ≡ Ok (counts 1 17)
unfolding read reading addresses_of any_twice address_of after fields_of left_of fields_within left_within is_whole file_of bytes_of card number image versions
eight = refl

ninth : judged (read (file_of (card 1 ∷ versions 1 9))) ≡ Err FieldDamaged
unfolding read reading addresses_of any_twice address_of after fields_of left_of fields_within left_within is_whole file_of bytes_of card number image versions
ninth = refl

-- A number that comes again does not rise.
same_number : judged (read (file_of (card 1 ∷ (versions 5 1 ++ versions 5 1)))) ≡ Err FieldDamaged
unfolding read reading addresses_of any_twice address_of after fields_of left_of fields_within left_within is_whole file_of bytes_of card number image versions
same_number = refl

-- An address listed twice.
listed_twice_lem : judged (read (file_of ((card 1 ∷ versions 1 1) ++ ((card 2 ∷ versions 1 1) ++ (card 1 ∷ versions 1 1))))) ≡ Err ListedTwice
unfolding read reading addresses_of any_twice address_of after fields_of left_of fields_within left_within is_whole file_of bytes_of card number image versions
listed_twice_lem = refl

-- 64 cards have room, 65 do not.
cards : ℕ → List Field
cards zero = []
cards (suc n) = card n ∷ number 1 ∷ image ∷ cards n

room_for_64 : judged (roomy (catalogue (cards 64))) ≡ Ok (counts 64 192)
unfolding addresses_of any_twice address_of card number image cards
room_for_64 = refl

none_for_65 : judged (roomy (catalogue (cards 65))) ≡ Err NoPlace
unfolding addresses_of any_twice address_of card number image cards
none_for_65 = refl
