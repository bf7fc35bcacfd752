-- `promises::host_reads_over_calls` meets its contract, by the law `host_reads_over_calls_lem`. Assumes nothing.
use Rattle.over_calls.proofs.Host.{host_reads_over_calls_lem}
use Rattle.promises.proofs.host_reads_over_calls.Goals as goal

pub returns : goal.returns
returns c = host_reads_over_calls_lem
