-- `catalogue_promises::accepted_is_well_formed` meets its contract, which is the law of `Fit`.
-- Assumes nothing.
use Rattle.catalogue_rules.proofs.Fit.{accepted_is_well_formed_lem}
use Rattle.catalogue_promises.proofs.accepted_is_well_formed.Goals as goal

pub returns : goal.returns
returns c = accepted_is_well_formed_lem
