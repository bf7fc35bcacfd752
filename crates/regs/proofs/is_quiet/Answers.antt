-- `regs::is_quiet` meets its contract, by the law `quiet-stays`. Assumes nothing.
use Rattle.card_rules.proofs.Quiet.{quiet-stays}
use Rattle.regs.proofs.is_quiet.Goals as goal

pub returns : goal.returns
returns c q =
    quiet-stays c.args.c _ _ _ _ c.requires.1 c.rx_size-size.ensures.0 c.early_settled-early.ensures q
