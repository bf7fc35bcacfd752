-- `window_read::rx_free` meets its contract: the size is the configuration's. Assumes nothing.
use Rattle.card_rules.specs.View.{view}
use Rattle.card_rules.proofs.Sides.{rx_sound_at}
use Rattle.window_read.proofs.rx_free.Goals as goal

pub rx_free-requires : goal.rx_free-requires
rx_free-requires c = rx_sound_at _ _ _ _ c.rx_size.ensures.0 c.s.invariant

pub returns : goal.returns
unfolding view
returns c = rw (← c.s.view_is, c.rx_free.ensures, c.rx_size.ensures.0)
