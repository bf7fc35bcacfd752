-- `search::listed` meets its contract. The invariant: the address is among those from the place on exactly if it is among all.
-- The measure is what is left of the file.
-- Assumes nothing.
use Prim.Native.Nat.{◌-◌}
use mathlib.Core.Path.{◌≡◌}
use lib.ListN.{length, drop}
use Rattle.catalogue_rules.specs.Field.{fields_of}
use Rattle.catalogue_rules.specs.Reading.{addresses_of, is_among}
use Rattle.catalogue_read.proofs.search.listed.Given as goal

abbrev pub invariant-loop-f : goal.invariant-loop-f
invariant-loop-f l = is_among l.address (addresses_of (fields_of (drop l.at l.file))) ≡ is_among l.address (addresses_of (fields_of (drop l.from l.file)))

abbrev pub decreases-loop-f : goal.decreases-loop-f
decreases-loop-f l = length l.file - l.at
