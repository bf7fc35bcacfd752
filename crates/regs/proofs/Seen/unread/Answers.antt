-- `Seen::unread` meets its contract: the size is the configuration's. Assumes nothing.
use Rattle.receive_rules.proofs.Count.{back}
use Rattle.card_rules.specs.View.{view}
use Rattle.card_rules.proofs.Sides.{rx_sound_at}
use Rattle.regs.proofs.Seen.unread.Goals as goal

pub unread-requires : goal.unread-requires
unread-requires c = rx_sound_at _ _ _ _ c.rx_size.ensures.0 c.self.invariant

pub returns : goal.returns
unfolding view
returns c = rw (← c.self.view_is, back c.unread.result c.unread.type_inv, c.unread.ensures, c.rx_size.ensures.0)
