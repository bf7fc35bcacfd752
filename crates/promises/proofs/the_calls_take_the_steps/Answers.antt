-- `promises::the_calls_take_the_steps` meets its contract, by the law `take_the_steps`. Assumes nothing.
use Rattle.run_calls.proofs.All.{take_the_steps}
use Rattle.promises.proofs.the_calls_take_the_steps.Goals as goal

pub returns : goal.returns
returns c = take_the_steps
