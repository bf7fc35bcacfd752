-- `beside::rx_early_comes_as_before` meets its contract, by the law `early_as_before`. Assumes nothing.
use Rattle.runs.proofs.AsBefore.{early_as_before}
use Rattle.promises.proofs.beside.rx_early_comes_as_before.Goals as goal

pub returns : goal.returns
returns c = early_as_before
