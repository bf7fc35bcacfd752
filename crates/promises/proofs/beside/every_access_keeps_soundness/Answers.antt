-- Cites the theorem. Assumes nothing.
use Rattle.found.proofs.Sound.{keeps}
use Rattle.promises.proofs.beside.every_access_keeps_soundness.Goals as goal

pub returns : goal.returns
returns c = keeps
