-- `places::last_number` meets its contract. The invariant: the last number of what is left, behind the number told last, else the last so far, is the latest.
-- The measure is what is left of the file.
-- Assumes nothing.
use Prim.Native.Nat.{◌-◌}
use mathlib.Core.Path.{◌≡◌}
use lib.ListN.{length, drop}
use Rattle.catalogue_rules.specs.Field.{fields_of}
use Rattle.catalogue_rules.specs.Cards.{versions_from}
use Rattle.catalogue_rules.specs.Edit.{latest_number}
use Rattle.catalogue_rules.proofs.Versions.{latest_from}
use Rattle.catalogue_put.proofs.places.last_number.Given as goal

abbrev pub invariant-loop-f : goal.invariant-loop-f
invariant-loop-f l = latest_from l.last (versions_from l.told (fields_of (drop l.at l.file))) ≡ latest_number (versions_from 0 (fields_of (drop l.from l.file)))

abbrev pub decreases-loop-f : goal.decreases-loop-f
decreases-loop-f l = length l.file - l.at
