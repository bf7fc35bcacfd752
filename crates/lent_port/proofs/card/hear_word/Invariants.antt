-- The bits of the word from the i-th on are left.
-- Assumes nothing.
use Rattle.std.proofs.Common.{◌<◌}
use Rattle.lent_port.proofs.Loops.{HeardAt}
use Rattle.lent_port.proofs.card.hear_word.Given as goal

abbrev pub invariant-loop-i : goal.invariant-loop-i
invariant-loop-i l = (l.w < 65536) × HeardAt l.x l._i l.initial.w l.initial.s l.w l.s
