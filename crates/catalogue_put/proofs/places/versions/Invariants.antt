-- `places::versions` meets its contract. The invariant: the versions passed and those left are all; each took a place.
-- The measure is what is left of the file.
-- Assumes nothing.
use Prim.Native.Nat.{◌+◌, ◌-◌, ◌≤◌}
use mathlib.Core.Path.{◌≡◌}
use lib.ListN.{length, drop}
use Rattle.catalogue_rules.specs.Field.{fields_of}
use Rattle.catalogue_rules.specs.Cards.{versions_from}
use Rattle.catalogue_put.proofs.places.versions.Given as goal

abbrev pub invariant-loop-f : goal.invariant-loop-f
invariant-loop-f l = (l.n ≤ l.at) × (l.n + length (versions_from 0 (fields_of (drop l.at l.file))) ≡ length (versions_from 0 (fields_of (drop l.from l.file))))

abbrev pub decreases-loop-f : goal.decreases-loop-f
decreases-loop-f l = length l.file - l.at
