-- `images::any_twice` meets its contract. The invariant: two of the images left have one address exactly if two of all have.
-- The measure is how many images are left.
-- Assumes nothing.
use Rattle.catalogue_row.proofs.Each.{twice_here, twice_later, none_twice}
use Rattle.catalogue_row.proofs.images.any_twice.Goals as goal

pub returns-then-listed : goal.returns-then-listed
returns-then-listed c = twice_here c.in-Some.ensures.cases.0 c.address_of.ensures c.listed.ensures c.loop-image.invariant c.if-listed.true

pub loop-image-preserved : goal.loop-image-preserved
loop-image-preserved c = twice_later c.in-Some.ensures.cases.0 c.address_of.ensures c.listed.ensures c.loop-image.invariant c.if-listed.false

pub returns : goal.returns
returns c = none_twice c.loop-image.left.now c.in_default.ensures.cases c.loop-image.invariant
