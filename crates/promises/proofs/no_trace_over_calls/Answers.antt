-- Cites the theorem. Assumes nothing.
use Rattle.over_calls.proofs.Over.{over_calls_lem}
use Rattle.promises.proofs.no_trace_over_calls.Goals as goal

pub returns : goal.returns
returns c = over_calls_lem
