-- `steps::write_byte` meets its contract: an inactive card stays, an active one takes the effect and settles. Assumes nothing.
use borrow.Author.Tests.{not-true, not-false}
use Rattle.card_rules.specs.View.{view}
use Rattle.card_rules.specs.Access.{WriteByte, effect}
use Rattle.card_rules.proofs.StepKeeps.{byte-keeps}
use Rattle.card_rules.proofs.StepEnds.{unsettled, settled_as, stands-ones, written_as}
use Rattle.steps.proofs.write_byte.Goals as goal

pub returns-then-not-c : goal.returns-then-not-c
returns-then-not-c c = stands-ones c.args.c _ _ c.requires (WriteByte c.args.o c.args.v) (not-true _ c.if-not-c.true)

pub settle-requires : goal.settle-requires
settle-requires c =
    unsettled _ _ _ _ c.write_byte-with_byte.ensures (byte-keeps (view c.args.c c.args.ram.now c.args.dir.now) c.requires.calm _ _)

pub returns : goal.returns
unfolding effect
returns c =
    written_as (WriteByte c.args.o c.args.v) c.args.c _ _ _ _ _ (not-false _ c.if-not-c.false) (settled_as _ _ _ _ _ c.write_byte-with_byte.ensures c.settle.ensures)
