-- `Seen::rx_status` meets its contract: the size is the configuration's. Assumes nothing.
use Rattle.card_rules.specs.View.{view}
use Rattle.card_rules.proofs.Sides.{rx_sound_at}
use Rattle.regs.proofs.Seen.rx_status.Goals as goal

pub rx_status-requires : goal.rx_status-requires
rx_status-requires c = rx_sound_at _ _ _ _ c.rx_size.ensures.0 c.self.invariant

pub returns : goal.returns
unfolding view
returns c = rw (← c.self.view_is, c.rx_status.ensures, c.rx_size.ensures.0)
