-- `beside::a_budget_of_3061_is_enough` meets its contract, by the law `budget-enough`. Assumes nothing.
use Rattle.frames_carried.proofs.NoneLeft.{budget-enough}
use Rattle.promises.proofs.beside.a_budget_of_3061_is_enough.Goals as goal

pub returns : goal.returns
returns c = budget-enough
