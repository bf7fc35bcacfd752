-- Lookups in small catalogues, by computing; images of one byte stand in. Assumes nothing.
use Prim.Native.Nat.{ℕ, zero, suc, ◌+◌}
use mathlib.Core.Path.{◌≡◌, refl}
use mathlib.Core.List.{List, [], ◌∷◌}
use Rattle.std.specs.Prelude.{Ok, Err}
use Rattle.refusal.specs.declared.Refusal.TheVariants.{FieldDamaged, FileEndsEarly, NoSuchCard, NoPlace, ListedTwice}
use Rattle.catalogue_rules.specs.Field.{Field, field}
use Rattle.catalogue_rules.specs.Turns.{address_of}
use Rattle.catalogue_rules.specs.Reading.{catalogue, refused, addresses_of, any_twice}
use Rattle.catalogue_rules.specs.declared.Hit.TheVariants.{InOverride, InMain}
use Rattle.catalogue_rules.specs.Lookup.{spots_from, spots_at, last_spot, numbered_spot, unless_faulty, latest_in, given_in, else_main, looked_up, span}

-- The card whose address ends in a.
card : ℕ → Field
card a = field 1 (0 ∷ 0 ∷ 0 ∷ 0 ∷ 0 ∷ a ∷ [])

number : ℕ → Field
number n = field 2 (n ∷ 0 ∷ [])

-- The main catalogue has versions 1 and 3 of card 1, of equal bytes, and card 2; the override another card 1.
main : List Field
main = card 1 ∷ number 1 ∷ field 3 (10 ∷ []) ∷ number 3 ∷ field 3 (10 ∷ []) ∷ card 2 ∷ number 1 ∷ field 3 (10 ∷ []) ∷ []

own : List Field
own = card 1 ∷ number 1 ∷ field 3 (99 ∷ []) ∷ []

-- Fields of 9, 5, 4, 5, 4, 9, 5 and 4 bytes: card 1's latest image is the one at 26 and not its equals at 17 and 44.
latest : latest_in 1 (catalogue main) ≡ Ok (span 26 1)
unfolding latest_in last_spot spots_at spots_from addresses_of any_twice address_of main card number
latest = refl

given : given_in 1 1 (catalogue main) ≡ Ok (span 17 1)
unfolding given_in numbered_spot spots_at spots_from addresses_of any_twice address_of main card number
given = refl

other_card : latest_in 2 (catalogue main) ≡ Ok (span 44 1)
unfolding latest_in last_spot spots_at spots_from addresses_of any_twice address_of main card number
other_card = refl

-- There is no version 2.
not-given : given_in 1 2 (catalogue main) ≡ Err NoSuchCard
unfolding given_in numbered_spot spots_at spots_from address_of main card number
not-given = refl

-- Card 1 comes out of the override, card 2 out of the main catalogue; the override's damage comes first.
own_first : looked_up 1 (catalogue own) (catalogue main) ≡ Ok (InOverride (span 17 1))
unfolding looked_up latest_in last_spot addresses_of any_twice spots_at spots_from address_of main own card number
own_first = refl

main-then : looked_up 2 (catalogue own) (catalogue main) ≡ Ok (InMain (span 44 1))
unfolding looked_up else_main last_spot addresses_of any_twice spots_at spots_from address_of main own card number
main-then = refl

own-damaged : looked_up 2 (refused FieldDamaged) (catalogue main) ≡ Err FieldDamaged
unfolding looked_up
own-damaged = refl

-- ---- the order of the refusals

-- Card 2 is listed twice: card 1, not listed, is missed first (17), then the listing (19).
twice : List Field
twice = card 2 ∷ number 1 ∷ field 3 (20 ∷ []) ∷ card 2 ∷ number 2 ∷ field 3 (21 ∷ []) ∷ []

missing_before_twice : latest_in 1 (catalogue twice) ≡ Err NoSuchCard
unfolding latest_in last_spot spots_at spots_from address_of twice card number
missing_before_twice = refl

listed_twice_lem : latest_in 2 (catalogue twice) ≡ Err ListedTwice
unfolding latest_in last_spot spots_at spots_from addresses_of any_twice address_of twice card number
listed_twice_lem = refl

-- The first listing counts: version 2 stands in the second alone.
first_listing : given_in 2 2 (catalogue twice) ≡ Err NoSuchCard
unfolding given_in numbered_spot spots_at spots_from address_of twice card number
first_listing = refl

-- 65 cards, one of them listed twice: 17, then 18 before 19.
cards_from : ℕ → List Field
cards_from zero = []
cards_from (suc n) = card (n + 100) ∷ number 1 ∷ field 3 (n ∷ []) ∷ cards_from n

crowd : List Field
crowd = card 100 ∷ number 1 ∷ field 3 [] ∷ cards_from 64

missing_before_crowded : unless_faulty crowd (Err NoSuchCard) ≡ Err NoSuchCard
missing_before_crowded = refl

crowded_before_twice : unless_faulty crowd (Ok (span 17 0)) ≡ Err NoPlace
unfolding addresses_of any_twice address_of crowd cards_from card number
crowded_before_twice = refl

-- An override that lists card 2 twice and lacks card 1: 19, but first the main file's early end and a card that neither has.
faulty_override : looked_up 1 (catalogue twice) (catalogue main) ≡ Err ListedTwice
unfolding looked_up else_main last_spot addresses_of any_twice spots_at spots_from address_of main twice card number
faulty_override = refl

main_cut_first : looked_up 1 (catalogue twice) (refused FileEndsEarly) ≡ Err FileEndsEarly
unfolding looked_up else_main addresses_of address_of twice card number
main_cut_first = refl

missing_first : looked_up 3 (catalogue twice) (catalogue main) ≡ Err NoSuchCard
unfolding looked_up else_main last_spot addresses_of spots_at spots_from address_of main twice card number
missing_first = refl

-- An override with 65 cards that lacks card 2 and a main file that lists it twice: 18.
crowded_override_first : looked_up 2 (catalogue crowd) (catalogue twice) ≡ Err NoPlace
unfolding looked_up else_main last_spot addresses_of any_twice spots_at spots_from address_of crowd cards_from twice card number
crowded_override_first = refl
