-- A small catalogue, added to and dropped from, by computing.
-- Assumes nothing.
use Prim.Native.Nat.{ℕ}
use mathlib.Core.Path.{◌≡◌, refl}
use mathlib.Core.List.{List, [], ◌∷◌}
use Rattle.catalogue_rules.specs.Field.{Field, field}
use Rattle.catalogue_rules.specs.Turns.{address_of}
use Rattle.catalogue_rules.specs.Reading.{addresses_of}
use Rattle.catalogue_rules.specs.Cards.{versions_from, versions_at}
use Rattle.catalogue_rules.specs.Edit.{latest_number, at_cards_end, with_version, with_added, without_image, without_oldest, without_version}
use Rattle.catalogue_kept.proofs.Fields.{version}

address : ℕ → List ℕ
address n = 0 ∷ 0 ∷ 0 ∷ 0 ∷ 0 ∷ n ∷ []

-- An image's first words: the node address, low byte first in each.
new : ℕ → List ℕ
new n = 0 ∷ 0 ∷ 0 ∷ 0 ∷ n ∷ 0 ∷ []

-- Card 7 with version 3 and an unknown field, and card 8 with version 1.
small : List Field
small =
    field 1 (address 7) ∷ field 2 (3 ∷ 0 ∷ []) ∷ field 3 (30 ∷ []) ∷ field 200 [] ∷ field 1 (address 8) ∷ field 2 (1 ∷ 0 ∷ []) ∷ field 3 (10 ∷ []) ∷ []

-- A version more of card 7: its number is 4, and card 8 is as it was.
added-version : versions_at 7 (with_added (new 7) small) ≡ version 3 (30 ∷ []) ∷ version 4 (new 7) ∷ []
unfolding with_added with_version at_cards_end latest_number versions_at versions_from addresses_of address_of small address new
added-version = refl

other_card : versions_at 8 (with_added (new 7) small) ≡ version 1 (10 ∷ []) ∷ []
unfolding with_added with_version at_cards_end latest_number versions_at versions_from addresses_of address_of small address new
other_card = refl

-- Card 9 is new and begins with 1.
added-card : versions_at 9 (with_added (new 9) small) ≡ version 1 (new 9) ∷ []
unfolding with_added latest_number versions_at versions_from addresses_of address_of small address new
added-card = refl

-- Dropped again, the oldest goes first; with its only version a card goes, and its unknown field stays.
dropped-oldest : versions_at 7 (without_version 7 (with_added (new 7) small)) ≡ version 4 (new 7) ∷ []
unfolding without_version without_oldest without_image with_added with_version at_cards_end latest_number versions_at versions_from addresses_of address_of small address new
dropped-oldest = refl

dropped-card : without_version 7 small ≡ field 200 [] ∷ field 1 (address 8) ∷ field 2 (1 ∷ 0 ∷ []) ∷ field 3 (10 ∷ []) ∷ []
unfolding without_version without_oldest without_image versions_from address_of small address
dropped-card = refl
