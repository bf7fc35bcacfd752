-- Small archives, moved in and out by computing; short images stand in. Assumes nothing.
use mathlib.Core.Path.{◌≡◌, refl}
use mathlib.Core.List.{[], ◌∷◌}
use Rattle.catalogue_rules.specs.Field.{field}
use Rattle.catalogue_rules.specs.Turns.{address_of}
use Rattle.catalogue_rules.specs.Cards.{versions_from, cards_of}
use Rattle.catalogue_rules.specs.Archive.{row_of, moved_in, moved_out, latest_of, images_of}

-- An image of address 01 02 03 04 05 06 becomes version 1 of that card.
moved_in_lem : moved_in ((2 ∷ 1 ∷ 4 ∷ 3 ∷ 6 ∷ 5 ∷ []) ∷ [])
    ≡ field 1 (1 ∷ 2 ∷ 3 ∷ 4 ∷ 5 ∷ 6 ∷ []) ∷ field 2 (1 ∷ 0 ∷ []) ∷ field 3 (2 ∷ 1 ∷ 4 ∷ 3 ∷ 6 ∷ 5 ∷ []) ∷ []
unfolding moved_in
moved_in_lem = refl

-- Of versions 1 and 2 of a card the image of 2 is written out, then the next card's.
moved_out_lem : moved_out
    (field 1 (0 ∷ 0 ∷ 0 ∷ 0 ∷ 0 ∷ 1 ∷ []) ∷ field 2 (1 ∷ 0 ∷ []) ∷ field 3 (70 ∷ 71 ∷ []) ∷ field 2 (2 ∷ 0 ∷ []) ∷ field 3 (80 ∷ 81 ∷ [])
    ∷ field 1 (0 ∷ 0 ∷ 0 ∷ 0 ∷ 0 ∷ 2 ∷ []) ∷ field 2 (1 ∷ 0 ∷ []) ∷ field 3 (90 ∷ 91 ∷ []) ∷ [])
    ≡ 80 ∷ 81 ∷ 90 ∷ 91 ∷ []
unfolding row_of images_of latest_of cards_of versions_from address_of
moved_out_lem = refl
