-- Cites the theorem. Assumes nothing.
use Rattle.fits.proofs.NeedsExamples.{what_services_need_lem}
use Rattle.promises.proofs.beside.what_services_need.Goals as goal

pub returns : goal.returns
returns c = what_services_need_lem
