-- `beside::two_stretches` meets its contract, by computing. Assumes nothing.
use Rattle.no_trace.proofs.Examples.{two_stretches_lem}
use Rattle.promises.proofs.beside.two_stretches.Goals as goal

pub returns : goal.returns
returns c = two_stretches_lem
