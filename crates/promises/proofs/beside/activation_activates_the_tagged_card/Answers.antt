-- Cites the theorem. Assumes nothing.
use Rattle.found.proofs.Activate.{activates}
use Rattle.promises.proofs.beside.activation_activates_the_tagged_card.Goals as goal

pub returns : goal.returns
returns c = activates
