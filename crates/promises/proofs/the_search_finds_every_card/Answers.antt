-- `promises::the_search_finds_every_card` meets its contract, by the law `finds_every_card`. Assumes nothing.
use Rattle.found.proofs.Found.{finds_every_card}
use Rattle.promises.proofs.the_search_finds_every_card.Goals as goal

pub returns : goal.returns
returns c = finds_every_card
