-- The rounds from the i-th on are left.
-- Assumes nothing.
use Rattle.lent_port.proofs.Loops.{ThroughAt}
use Rattle.lent_port.proofs.roll.through.Given as goal

abbrev pub invariant-loop-i : goal.invariant-loop-i
invariant-loop-i l = ThroughAt l.x l.i l.addresses l.initial.s l.s
