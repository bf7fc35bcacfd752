-- `promises::frames_over_calls` meets its contract, by the law `frames_over_calls_lem`. Assumes nothing.
use Rattle.over_calls.proofs.Frames.{frames_over_calls_lem}
use Rattle.promises.proofs.frames_over_calls.Goals as goal

pub returns : goal.returns
returns c = frames_over_calls_lem
