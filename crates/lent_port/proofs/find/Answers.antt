-- `find` meets its contract: refused by the tests it changes nothing, else each card goes through the rounds.
-- Assumes nothing.
use Rattle.std.proofs.Common.{rules}
use Rattle.lent_port.proofs.Slices.{few}
use Rattle.lent_port.proofs.Calls.{refuses, passes, found-comes}
use Rattle.lent_port.proofs.find.Goals as goal

pub returns-in-Err : goal.returns-in-Err
returns-in-Err c = refuses _ _ _ (λ a. a) _ _ c.in-Err.ensures

pub search-found-requires : goal.search-found-requires
search-found-requires c = few _ _ (passes _ _ _ _ c.in_default.is c.tested.ensures).1

pub returns : goal.returns
returns c = found-comes _ _ _ _ c.digit-x.ensures _ _ c.in_default.is c.tested.ensures c.search-found.result c.search-found.ensures (c.each.ensures _ (λ s r p. search rules))
