-- `over_runs::damaged_frames_leave_no_trace` meets its contract, by the law `no_trace`. Assumes nothing.
use Rattle.no_trace.proofs.Trace.{no_trace}
use Rattle.promises.proofs.over_runs.damaged_frames_leave_no_trace.Goals as goal

pub returns : goal.returns
returns c = no_trace
