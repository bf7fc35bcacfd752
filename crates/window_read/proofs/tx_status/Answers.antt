-- `window_read::tx_status` meets its contract: the statuses lie in their places. Assumes nothing.
use Rattle.card_rules.specs.View.{view}
use Rattle.window_read.proofs.tx_status.Goals as goal

pub returns : goal.returns
unfolding view
returns c = rw (← c.s.view_is, c.wide.ensures.0, c.top_status.ensures)
