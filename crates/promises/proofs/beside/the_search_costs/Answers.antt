-- Cites the theorem. Assumes nothing.
use Rattle.found.proofs.Found.{costs_so}
use Rattle.promises.proofs.beside.the_search_costs.Goals as goal

pub returns : goal.returns
returns c = costs_so
