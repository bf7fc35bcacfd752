-- Cites the theorem. Assumes nothing.
use Rattle.found.proofs.Activate.{activates-one}
use Rattle.promises.proofs.beside.a_found_card_is_activated_alone.Goals as goal

pub returns : goal.returns
returns c = activates-one
