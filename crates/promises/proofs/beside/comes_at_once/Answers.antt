-- `beside::comes_at_once` meets its contract, by the law `unfit_at_once`. Assumes nothing.
use Rattle.driver_rules.proofs.Unfit.{unfit_at_once}
use Rattle.promises.proofs.beside.comes_at_once.Goals as goal

pub returns : goal.returns
returns c = unfit_at_once
