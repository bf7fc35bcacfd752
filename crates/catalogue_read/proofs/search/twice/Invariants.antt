-- `search::twice` meets its contract. The invariant: an address is listed twice from the place on exactly if one is in the whole file.
-- The measure is what is left of the file.
-- Assumes nothing.
use Prim.Native.Nat.{◌-◌}
use mathlib.Core.Path.{◌≡◌}
use lib.ListN.{length, drop}
use Rattle.catalogue_rules.specs.Field.{fields_of}
use Rattle.catalogue_rules.specs.Reading.{addresses_of, any_twice}
use Rattle.catalogue_read.proofs.search.twice.Given as goal

abbrev pub invariant-loop-f : goal.invariant-loop-f
invariant-loop-f l = any_twice (addresses_of (fields_of (drop l.at l.file))) ≡ any_twice (addresses_of (fields_of l.file))

abbrev pub decreases-loop-f : goal.decreases-loop-f
decreases-loop-f l = length l.file - l.at
