-- `beside::not_at_rest_leaves_a_trace` meets its contract, by computing. Assumes nothing.
use Rattle.no_trace.proofs.Examples.{not_at_rest}
use Rattle.promises.proofs.beside.not_at_rest_leaves_a_trace.Goals as goal

pub returns : goal.returns
returns c = not_at_rest
