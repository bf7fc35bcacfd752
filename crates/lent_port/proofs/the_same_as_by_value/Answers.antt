-- The theorem is a law over the definitions.
-- Assumes nothing.
use Rattle.lent_port.proofs.Alikes.{the_same}
use Rattle.lent_port.proofs.the_same_as_by_value.Goals as goal

pub returns : goal.returns
returns c = the_same
