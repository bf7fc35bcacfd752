-- `regs::settle` meets its contract: where nothing is due the card stands as it is. Assumes nothing.
use Rattle.card_rules.proofs.Quiet.{stands-quiet}
use Rattle.regs.proofs.settle.Goals as goal

pub returns-then-is_quiet : goal.returns-then-is_quiet
returns-then-is_quiet c = stands-quiet c.args.c _ _ c.requires.0 c.requires.1 (c.is_quiet.ensures c.if-is_quiet.true)
