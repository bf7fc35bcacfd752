-- `moved::cards` meets its contract. The invariant: the cards of the images so far were put.
-- Assumes nothing.
use Rattle.std.proofs.Common.{◌≡◌, ◌*◌}
use Rattle.catalogue_rules.specs.Put.{put_at}
use Rattle.catalogue_row.proofs.Putting.{so_far}
use Rattle.catalogue_row.proofs.moved.cards.Given as goal

abbrev pub invariant-loop-image : goal.invariant-loop-image
invariant-loop-image l = (l.to ≡ 145 * l.image-index) × (l.out ≡ put_at l.initial.out 0 (so_far l.images l.image-index))
