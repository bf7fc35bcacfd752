-- `promises::every_step_keeps_soundness` meets its contract, by the law `soundness_is_kept`. Assumes nothing.
use Rattle.runs.proofs.Kept.{soundness_is_kept}
use Rattle.promises.proofs.every_step_keeps_soundness.Goals as goal

pub returns : goal.returns
returns c = soundness_is_kept
