-- `regs::settle_all` meets its contract, by the law `settles`. Assumes nothing.
use Rattle.card_rules.proofs.Ends.{settles}
use Rattle.regs.proofs.settle_all.Goals as goal

pub returns : goal.returns
returns c =
    settles _ _ _ _ _ _ c.requires.1 c.settle_sides-settled.ensures c.flags_of.ensures c.interrupts-rising.ensures
