-- Cites the theorem. Assumes nothing.
use Rattle.found.proofs.Zeros.{one_zero_misses}
use Rattle.promises.proofs.beside.one_zero_misses_a_card.Goals as goal

pub returns : goal.returns
returns c = one_zero_misses
