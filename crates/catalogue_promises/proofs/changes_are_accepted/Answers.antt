-- `catalogue_promises::changes_are_accepted` meets its contract, which is the law of `Accepted`.
-- Assumes nothing.
use Rattle.catalogue_kept.proofs.Accepted.{changes_are_accepted_lem}
use Rattle.catalogue_promises.proofs.changes_are_accepted.Goals as goal

pub returns : goal.returns
returns c = changes_are_accepted_lem
