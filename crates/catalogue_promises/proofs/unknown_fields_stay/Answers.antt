-- `catalogue_promises::unknown_fields_stay` meets its contract, which is the law of `Kept`.
-- Assumes nothing.
use Rattle.catalogue_rules.proofs.Kept.{unknown_fields_stay_lem}
use Rattle.catalogue_promises.proofs.unknown_fields_stay.Goals as goal

pub returns : goal.returns
returns c = unknown_fields_stay_lem
