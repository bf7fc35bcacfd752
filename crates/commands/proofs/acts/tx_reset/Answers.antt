-- `acts::tx_reset` meets its contract, by the law `tx-reset-does`. Assumes nothing.
use Rattle.transmit_rules.proofs.Facts.{empty_fifo}
use Rattle.card_rules.proofs.Effects.{tx-reset-does}
use Rattle.commands.proofs.acts.tx_reset.Goals as goal

pub returns : goal.returns
returns c = rw (empty_fifo c.default.result c.default.ensures) (tx-reset-does _ _ c.reset.ensures)
