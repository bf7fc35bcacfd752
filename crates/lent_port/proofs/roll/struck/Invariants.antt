-- The addresses before this one are struck where they are the survivor's.
-- Assumes nothing.
use Rattle.std.proofs.Common.{◌≡◌, cond, eqb}
use Rattle.bits.specs.UpTo.{up_to}
use Rattle.port_rules.specs.Search.{all_ones}
use Rattle.lent_port.proofs.roll.struck.Given as goal

abbrev pub invariant-loop-x : goal.invariant-loop-x
invariant-loop-x l = l.x-items ≡ up_to (λ x. cond (eqb x l.address) all_ones x) l.x-index l.initial.x-items
