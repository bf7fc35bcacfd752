-- `Seen::status_word` meets its contract: the registers are in their ranges. Assumes nothing.
use Rattle.card_rules.specs.View.{view}
use Rattle.card_rules.proofs.Sides.{rx_sound_is, selected}
use Rattle.regs.proofs.Seen.status_word.Goals as goal

pub flags_of-requires : goal.flags_of-requires
flags_of-requires c = (c.self.invariant.held, rx_sound_is _ _ _ c.self.invariant)

pub status_of-requires : goal.status_of-requires
unfolding view
status_of-requires c =
    let s = c.self.inside in
    selected (view s.card.now s.ram.now s.dir.now) c.self.invariant.calm

pub returns : goal.returns
unfolding view
returns c = rw (← c.self.view_is, c.status_of.ensures, c.flags_of.ensures)
