-- `acts::rx_reset` meets its contract, by the law `rx-reset-does`. Assumes nothing.
use Rattle.card_rules.proofs.Effects.{rx-reset-does}
use Rattle.commands.proofs.acts.rx_reset.Goals as goal

pub returns : goal.returns
returns c = rw c.quiet-c.ensures (rx-reset-does _ _ c.deafen.ensures)
