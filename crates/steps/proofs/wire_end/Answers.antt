-- `steps::wire_end` meets its contract: the effect, settled. Assumes nothing.
use Rattle.card_rules.specs.View.{view}
use Rattle.card_rules.specs.Event.{wire_end}
use Rattle.card_rules.proofs.StepKeeps.{end-keeps}
use Rattle.card_rules.proofs.StepEnds.{unsettled, settled_as}
use Rattle.steps.proofs.wire_end.Goals as goal

pub settle-requires : goal.settle-requires
unfolding view
settle-requires c =
    unsettled _ _ _ _ c.wire_end-ended.ensures (end-keeps (view c.args.c c.args.ram.now c.args.dir.now) c.requires.calm _ _)

pub returns : goal.returns
unfolding wire_end view
returns c = settled_as _ _ _ _ _ c.wire_end-ended.ensures c.settle.ensures
