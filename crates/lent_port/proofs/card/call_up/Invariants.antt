-- The bytes of the sequence from the i-th on are left.
-- Assumes nothing.
use Rattle.lent_port.proofs.Loops.{CalledAt}
use Rattle.lent_port.proofs.card.call_up.Given as goal

abbrev pub invariant-loop-i : goal.invariant-loop-i
invariant-loop-i l = CalledAt l.x l.i l.initial.s l.s
