-- `walk::numbered` meets its contract. The invariant: the image with the number is that of what is left, behind the number told last.
-- The measure is what is left of the file.
-- Assumes nothing.
use Prim.Native.Nat.{◌-◌}
use mathlib.Core.Path.{◌≡◌}
use lib.ListN.{length, drop}
use Rattle.catalogue_rules.specs.Field.{fields_of}
use Rattle.catalogue_rules.specs.Lookup.{spots_from, numbered_spot}
use Rattle.catalogue_lookup.proofs.walk.numbered.Given as goal

abbrev pub invariant-loop-f : goal.invariant-loop-f
invariant-loop-f l = numbered_spot l.number (spots_from l.at l.told (fields_of (drop l.at l.file))) ≡ numbered_spot l.number (spots_from l.from 0 (fields_of (drop l.from l.file)))

abbrev pub decreases-loop-f : goal.decreases-loop-f
decreases-loop-f l = length l.file - l.at
