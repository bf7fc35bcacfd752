-- `over_runs::what_the_wire_brings_is_what_the_host_reads` meets its contract, by the law `brings_and_reads`. Assumes nothing.
use Rattle.frames_carried.proofs.NoneLeft.{brings_and_reads}
use Rattle.promises.proofs.over_runs.what_the_wire_brings_is_what_the_host_reads.Goals as goal

pub returns : goal.returns
returns c = brings_and_reads
