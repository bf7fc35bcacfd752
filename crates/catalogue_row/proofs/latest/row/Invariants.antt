-- `latest::row` meets its contract. The invariant: what the fields left still add makes the whole archive, and there is room for it.
-- The measure is what is left of the file.
-- Assumes nothing.
use Prim.Native.Nat.{◌-◌}
use lib.ListN.{length}
use Rattle.catalogue_row.proofs.Outward.{Going}
use Rattle.catalogue_row.proofs.latest.row.Given as goal

abbrev pub invariant-loop-f : goal.invariant-loop-f
invariant-loop-f l = Going l.file l.initial.out l.out l.at l.to

abbrev pub decreases-loop-f : goal.decreases-loop-f
decreases-loop-f l = length l.file - l.at
