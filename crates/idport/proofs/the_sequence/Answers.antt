-- Cites the law. Assumes nothing.
use Rattle.port_rules.proofs.Chain.{the_sequence_lem}
use Rattle.idport.proofs.the_sequence.Goals as goal

pub returns : goal.returns
returns c = the_sequence_lem
