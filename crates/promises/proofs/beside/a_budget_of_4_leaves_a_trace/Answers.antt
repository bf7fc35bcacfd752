-- `beside::a_budget_of_4_leaves_a_trace` meets its contract, by computing. Assumes nothing.
use Rattle.no_trace.proofs.Examples.{budget_of_4}
use Rattle.promises.proofs.beside.a_budget_of_4_leaves_a_trace.Goals as goal

pub returns : goal.returns
returns c = budget_of_4
