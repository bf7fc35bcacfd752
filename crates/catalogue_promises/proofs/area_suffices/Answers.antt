-- `catalogue_promises::area_suffices` meets its contract, which is the law of `Suffices`.
-- Assumes nothing.
use Rattle.catalogue_area.proofs.Suffices.{area_suffices_lem}
use Rattle.catalogue_promises.proofs.area_suffices.Goals as goal

pub returns : goal.returns
returns c = area_suffices_lem
