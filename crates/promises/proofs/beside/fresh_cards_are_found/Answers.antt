-- Cites the theorem. Assumes nothing.
use Rattle.found.proofs.Example.{fresh_cards_are_found_lem}
use Rattle.promises.proofs.beside.fresh_cards_are_found.Goals as goal

pub returns : goal.returns
returns c = fresh_cards_are_found_lem
