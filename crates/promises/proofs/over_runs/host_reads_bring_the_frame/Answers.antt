-- Cites the theorem. Assumes nothing.
use Rattle.frames_carried.proofs.Host.{host_reads_lem}
use Rattle.promises.proofs.over_runs.host_reads_bring_the_frame.Goals as goal

pub returns : goal.returns
returns c = host_reads_lem
