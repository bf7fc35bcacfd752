-- `search` meets its contract: the seven places hold what the rounds find on the roll, then zeros.
-- Assumes nothing.
use Rattle.std.proofs.Common.{refl}
use Rattle.lent_port.proofs.Loops.{finds-so}
use Rattle.lent_port.proofs.roll.search.Goals as goal

pub returns : goal.returns
returns c = finds-so _ _ _ _ c.roll-left.ensures.0 refl refl c.roll-left.ensures.1 c.rounds.ensures
