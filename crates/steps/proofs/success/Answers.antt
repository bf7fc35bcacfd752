-- `steps::success` meets its contract: the effect, settled. Assumes nothing.
use Rattle.card_rules.specs.View.{view}
use Rattle.card_rules.specs.Event.{success}
use Rattle.card_rules.proofs.StepKeeps.{success-keeps}
use Rattle.card_rules.proofs.StepEnds.{unsettled, settled_as}
use Rattle.steps.proofs.success.Goals as goal

pub settle-requires : goal.settle-requires
unfolding view
settle-requires c =
    unsettled _ _ _ _ c.success-gone.ensures.is (success-keeps (view c.args.c c.args.ram.now c.args.dir.now) c.requires.0.calm)

pub returns : goal.returns
unfolding success view
returns c =
    record {
      stands = settled_as _ _ _ _ _ c.success-gone.ensures.is c.settle.ensures;
      tells = c.success-gone.ensures.tells;
    }
