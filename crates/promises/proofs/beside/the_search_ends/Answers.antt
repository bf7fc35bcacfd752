-- Cites the theorem. Assumes nothing.
use Rattle.found.proofs.Ends.{ends}
use Rattle.promises.proofs.beside.the_search_ends.Goals as goal

pub returns : goal.returns
returns c = ends
