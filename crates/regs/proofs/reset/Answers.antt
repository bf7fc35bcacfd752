-- `regs::reset` meets its contract, by the law `reset-does`. Assumes nothing.
use Rattle.card_rules.proofs.Blank.{reset-does}
use Rattle.regs.proofs.reset.Goals as goal

pub returns : goal.returns
returns c = reset-does _ _ _ c.deafen.ensures c.power_on.ensures
