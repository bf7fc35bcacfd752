-- `beside::service_examples` meets its contract, by computing. Assumes nothing.
use Rattle.driver_examples.proofs.Service.{service_examples_lem}
use Rattle.promises.proofs.beside.service_examples.Goals as goal

pub returns : goal.returns
returns c = service_examples_lem
