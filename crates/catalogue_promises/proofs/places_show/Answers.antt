-- `catalogue_promises::places_show` meets its contract, which is the law of `Shows`.
-- Assumes nothing.
use Rattle.catalogue_rules.proofs.Shows.{places_show_lem}
use Rattle.catalogue_promises.proofs.places_show.Goals as goal

pub returns : goal.returns
returns c = places_show_lem
