-- `images::any_twice` meets its contract. The invariant: two of the images left have one address exactly if two of all have.
-- The measure is how many images are left.
-- Assumes nothing.
use Rattle.std.proofs.Common.{◌≡◌, length}
use Rattle.catalogue_rules.specs.Reading.{any_twice}
use Rattle.catalogue_rules.specs.Archive.{addresses_in}
use Rattle.catalogue_row.proofs.images.any_twice.Given as goal

abbrev pub invariant-loop-image : goal.invariant-loop-image
invariant-loop-image l = any_twice (addresses_in l.left) ≡ any_twice (addresses_in l.images)

abbrev pub decreases-loop-image : goal.decreases-loop-image
decreases-loop-image l = length l.left
