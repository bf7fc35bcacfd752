-- `catalogue_promises::nothing_else_fits` meets its contract, which is the law of `Fits`.
-- Assumes nothing.
use Rattle.catalogue_fits.proofs.Fits.{nothing_else_fits_lem}
use Rattle.catalogue_promises.proofs.nothing_else_fits.Goals as goal

pub returns : goal.returns
returns c = nothing_else_fits_lem
