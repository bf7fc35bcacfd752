-- `catalogue_promises::a_drop_takes_the_oldest` meets its contract, which is the law of `Shown`.
-- Assumes nothing.
use Rattle.catalogue_kept.proofs.Shown.{a_drop_takes_the_oldest_lem}
use Rattle.catalogue_promises.proofs.a_drop_takes_the_oldest.Goals as goal

pub returns : goal.returns
returns c = a_drop_takes_the_oldest_lem
