-- `steps::collisions` meets its contract: the effect, settled. Assumes nothing.
use Rattle.card_rules.specs.View.{view}
use Rattle.card_rules.specs.Event.{collisions}
use Rattle.card_rules.proofs.StepKeeps.{collisions-keeps}
use Rattle.card_rules.proofs.StepEnds.{unsettled, settled_as}
use Rattle.steps.proofs.collisions.Goals as goal

pub settle-requires : goal.settle-requires
unfolding view
settle-requires c =
    unsettled _ _ _ _ c.collisions-collided.ensures (collisions-keeps (view c.args.c c.args.ram.now c.args.dir.now) c.requires.0.calm)

pub returns : goal.returns
unfolding collisions view
returns c = settled_as _ _ _ _ _ c.collisions-collided.ensures c.settle.ensures
