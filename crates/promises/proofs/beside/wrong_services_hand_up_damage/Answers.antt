-- `beside::wrong_services_hand_up_damage` meets its contract, by computing. Assumes nothing.
use Rattle.no_trace.proofs.Examples.{wrong_services}
use Rattle.promises.proofs.beside.wrong_services_hand_up_damage.Goals as goal

pub returns : goal.returns
returns c = wrong_services
