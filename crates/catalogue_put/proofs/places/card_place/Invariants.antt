-- `places::card_place` meets its contract. The invariant: the card's place among what is left, from the place on, is its place in the file.
-- The measure is what is left of the file.
-- Assumes nothing.
use Prim.Native.Nat.{◌+◌, ◌-◌}
use mathlib.Core.Path.{◌≡◌}
use lib.ListN.{length, drop}
use Rattle.catalogue_rules.specs.Field.{fields_of}
use Rattle.catalogue_rules.specs.Reading.{addresses_of, is_among}
use Rattle.catalogue_put.specs.Places.{card_place, seek_if}
use Rattle.catalogue_put.proofs.places.card_place.Given as goal

abbrev pub invariant-loop-f : goal.invariant-loop-f
invariant-loop-f l = seek_if (is_among l.address (addresses_of (fields_of (drop l.at l.file)))) (l.at + card_place l.address (fields_of (drop l.at l.file)))
    ≡ seek_if (is_among l.address (addresses_of (fields_of l.file))) (card_place l.address (fields_of l.file))

abbrev pub decreases-loop-f : goal.decreases-loop-f
decreases-loop-f l = length l.file - l.at
