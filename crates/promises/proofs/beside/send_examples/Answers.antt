-- `beside::send_examples` meets its contract, by computing. Assumes nothing.
use Rattle.driver_examples.proofs.Send.{send_examples_lem}
use Rattle.promises.proofs.beside.send_examples.Goals as goal

pub returns : goal.returns
returns c = send_examples_lem
