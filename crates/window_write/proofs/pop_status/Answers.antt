-- `window_write::pop_status` meets its contract: a step of the transmit side is a step of the card. Assumes nothing.
use Rattle.card_rules.specs.View.{view}
use Rattle.card_rules.proofs.Join.{is_tx}
use Rattle.window_write.proofs.pop_status.Goals as goal

pub returns : goal.returns
unfolding view
returns c ram dir h = is_tx _ ram dir ram dir h _ _ (c.pop_status.ensures _ ram dir h.packets)
