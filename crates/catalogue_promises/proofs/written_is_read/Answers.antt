-- `catalogue_promises::written_is_read` meets its contract, which is the law of `Round`.
-- Assumes nothing.
use Rattle.catalogue_rules.proofs.Round.{written_is_read_lem}
use Rattle.catalogue_promises.proofs.written_is_read.Goals as goal

pub returns : goal.returns
returns c = written_is_read_lem
