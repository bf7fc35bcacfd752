-- `beside::clear_states` meets its contract, by the law `clear`. Assumes nothing.
use Rattle.sends_carried.proofs.Carried.{clear}
use Rattle.promises.proofs.beside.clear_states.Goals as goal

pub returns : goal.returns
returns c = clear
