-- Cites the theorem. Assumes nothing.
use Rattle.fits.proofs.When.{refused_exactly_when_lem}
use Rattle.promises.proofs.beside.refused_exactly_when.Goals as goal

pub returns : goal.returns
returns c = refused_exactly_when_lem
