-- Cites the theorem. Assumes nothing.
use Rattle.fits.proofs.Free.{left-free}
use Rattle.promises.proofs.beside.the_memory_is_left_free.Goals as goal

pub returns : goal.returns
returns c = left-free
