-- `beside::what_a_good_frame_costs` meets its contract, it is the law of the cost. Assumes nothing.
use Rattle.driver_examples.proofs.Cost.{frame-cost}
use Rattle.promises.proofs.beside.what_a_good_frame_costs.Goals as goal

pub returns : goal.returns
returns c = frame-cost
