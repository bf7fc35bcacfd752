-- `over_runs::sends_are_carried` meets its contract, by the law `carried`. Assumes nothing.
use Rattle.sends_carried.proofs.Carried.{carried}
use Rattle.promises.proofs.over_runs.sends_are_carried.Goals as goal

pub returns : goal.returns
returns c = carried
