-- `catalogue_promises::written_is_the_changed` meets its contract, which is the law of `Files`.
-- Assumes nothing.
use Rattle.catalogue_kept.proofs.Files.{written_is_the_changed_lem}
use Rattle.catalogue_promises.proofs.written_is_the_changed.Goals as goal

pub returns : goal.returns
returns c = written_is_the_changed_lem
