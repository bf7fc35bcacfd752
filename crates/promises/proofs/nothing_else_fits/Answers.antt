-- `promises::nothing_else_fits` meets its contract, by the law `nothing_else`. Assumes nothing.
use Rattle.fits.proofs.All.{nothing_else}
use Rattle.promises.proofs.nothing_else_fits.Goals as goal

pub returns : goal.returns
returns c = nothing_else
