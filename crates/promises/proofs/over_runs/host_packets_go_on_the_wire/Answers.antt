-- Cites the theorem. Assumes nothing.
use Rattle.sends_carried.proofs.Host.{host_packets}
use Rattle.promises.proofs.over_runs.host_packets_go_on_the_wire.Goals as goal

pub returns : goal.returns
returns c = host_packets
