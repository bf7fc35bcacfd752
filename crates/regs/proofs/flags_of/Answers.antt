-- `regs::flags_of` meets its contract, by the law `flags_are`. Assumes nothing.
use Rattle.card_rules.proofs.Ends.{flags_are}
use Rattle.regs.proofs.flags_of.Goals as goal

pub returns : goal.returns
returns c = flags_are _ _ _ _ _ _ c.rx_size.ensures.0 c.rx_complete.ensures c.has_status.ensures
