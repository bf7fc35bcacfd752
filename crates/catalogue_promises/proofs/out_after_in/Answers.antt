-- `catalogue_promises::out_after_in` meets its contract, which is the law of `OutAfter`.
-- Assumes nothing.
use Rattle.catalogue_rules.proofs.OutAfter.{out_after_in_lem}
use Rattle.catalogue_promises.proofs.out_after_in.Goals as goal

pub returns : goal.returns
returns c = out_after_in_lem
