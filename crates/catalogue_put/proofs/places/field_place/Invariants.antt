-- `places::field_place` meets its contract. The invariant: the place and the sizes of what is left before the field make its place.
-- The measure is what is left of the file.
-- Assumes nothing.
use Prim.Native.Nat.{◌+◌, ◌-◌}
use mathlib.Core.Path.{◌≡◌}
use lib.ListN.{length, drop}
use Rattle.catalogue_rules.specs.Field.{fields_of}
use Rattle.catalogue_put.specs.Places.{field_place}
use Rattle.catalogue_put.proofs.places.field_place.Given as goal

abbrev pub invariant-loop-f : goal.invariant-loop-f
invariant-loop-f l = l.at + field_place l.wanted (fields_of (drop l.at l.file)) ≡ l.from + field_place l.wanted (fields_of (drop l.from l.file))

abbrev pub decreases-loop-f : goal.decreases-loop-f
decreases-loop-f l = length l.file - l.at
