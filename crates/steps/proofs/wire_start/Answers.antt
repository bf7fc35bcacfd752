-- `steps::wire_start` meets its contract: the effect, settled. Assumes nothing.
use borrow.Author.Rules.{rules}
use Rattle.card_rules.specs.View.{view}
use Rattle.card_rules.specs.Event.{wire_start}
use Rattle.card_rules.proofs.StepKeeps.{start-keeps}
use Rattle.card_rules.proofs.StepEnds.{unsettled, settled_as}
use Rattle.steps.proofs.wire_start.Goals as goal

pub settle-requires : goal.settle-requires
unfolding view
settle-requires c =
    unsettled _ _ _ _ c.wire_start-started.ensures (start-keeps (view c.args.c c.args.ram.now c.args.dir.now) c.requires.0.calm _ _ (search rules) c.requires.1)

pub returns : goal.returns
unfolding wire_start view
returns c = settled_as _ _ _ _ _ c.wire_start-started.ensures c.settle.ensures
