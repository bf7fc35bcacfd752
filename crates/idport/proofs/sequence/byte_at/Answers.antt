-- `byte_at` meets its contract: one test that antt computes says that the table starts at FFh and that each byte is the next of the one before.
-- Assumes nothing.
use Prim.Native.Nat.{◌<◌}
use borrow.Author.Rules.{rules}
use Rattle.port_rules.specs.Sequence.{id_next}
use Rattle.port_rules.proofs.Chain.{chained}
use Rattle.idport.proofs.sequence.byte_at.Goals as goal

pub returns : goal.returns
unfolding id_next
returns c =
    let below : c.args.i < 255 = search rules in
    let tested : Unit {0} = tt in
    rw chained
