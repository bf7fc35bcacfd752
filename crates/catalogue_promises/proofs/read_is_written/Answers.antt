-- `catalogue_promises::read_is_written` meets its contract, which is the law of `Round`.
-- Assumes nothing.
use Rattle.catalogue_rules.proofs.Round.{read_is_written_lem}
use Rattle.catalogue_promises.proofs.read_is_written.Goals as goal

pub returns : goal.returns
returns c = read_is_written_lem
