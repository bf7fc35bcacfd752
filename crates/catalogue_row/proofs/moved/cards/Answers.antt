-- `moved::cards` meets its contract. The invariant: the cards of the images so far were put.
-- Assumes nothing.
use native.Mathlib.Omega.{arith}
use Rattle.std.proofs.Common.{refl, sym, ap}
use Rattle.catalogue_rules.specs.Put.{put_at}
use Rattle.catalogue_row.proofs.Putting.{none_so_far, putting_on, putting_ends, putting_length}
use Rattle.catalogue_row.proofs.moved.cards.Goals as goal

pub loop-image-init : goal.loop-image-init
loop-image-init c = (refl, ap (put_at c.args.out.now 0) (sym (none_so_far c.args.images.now)))

pub loop-image-preserved : goal.loop-image-preserved
loop-image-preserved c =
    (omega arith, putting_on c.args.images.now c.told-images c.args.out.now c.requires.1 c.loop-image.invariant.0 c.loop-image.invariant.1 c.loop-image-test.true c.card-to.ensures.1)

pub returns : goal.returns
returns c = (
  putting_length c.args.images.now c.told-images c.args.out.now c.requires.1 c.loop-image.invariant.0 c.loop-image.invariant.1 (omega arith) c.count.ensures.0,
  putting_ends c.args.images.now c.told-images c.args.out.now c.requires.1 c.loop-image.invariant.0 c.loop-image.invariant.1 (omega arith) c.count.ensures.1,
)
