-- `catalogue_promises::what_was_added_is_the_latest` meets its contract, which is the law of `Shown`.
-- Assumes nothing.
use Rattle.catalogue_kept.proofs.Shown.{what_was_added_is_the_latest_lem}
use Rattle.catalogue_promises.proofs.what_was_added_is_the_latest.Goals as goal

pub returns : goal.returns
returns c = what_was_added_is_the_latest_lem
