-- `steps::seat` meets its contract: the effect, settled. Assumes nothing.
use Rattle.card_rules.specs.View.{view}
use Rattle.card_rules.specs.Event.{seat}
use Rattle.card_rules.proofs.StepKeeps.{seat-keeps}
use Rattle.card_rules.proofs.StepEnds.{unsettled, settled_as}
use Rattle.steps.proofs.seat.Goals as goal

pub settle-requires : goal.settle-requires
settle-requires c =
    unsettled _ _ _ _ (c.seat-seated.ensures _ _ c.requires.0.held) (seat-keeps (view c.args.c c.args.ram.now c.args.dir.now) c.requires.0.calm _ c.requires.1)

pub returns : goal.returns
unfolding seat
returns c = settled_as _ _ _ _ _ (c.seat-seated.ensures _ _ c.requires.0.held) c.settle.ensures
