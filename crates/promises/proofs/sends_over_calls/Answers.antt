-- `promises::sends_over_calls` meets its contract, by the law `sends_over_calls_lem`. Assumes nothing.
use Rattle.over_calls.proofs.Sends.{sends_over_calls_lem}
use Rattle.promises.proofs.sends_over_calls.Goals as goal

pub returns : goal.returns
returns c = sends_over_calls_lem
