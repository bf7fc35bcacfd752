-- `hear_word` meets its contract: with each turn one bit of the word fewer is left.
-- Assumes nothing.
use Rattle.std.proofs.Common.{arith}
use Rattle.lent_port.proofs.Loops.{heard_turn, heard-end}
use Rattle.lent_port.proofs.card.hear_word.Goals as goal

pub loop-i-preserved : goal.loop-i-preserved
loop-i-preserved c = (omega arith, heard_turn _ c.loop-i._i _ _ _ _ _ (omega arith) c.id_after_read-s.ensures c.loop-i.invariant.1)

pub returns : goal.returns
returns c = heard-end _ c.loop-i._i _ _ _ _ (omega arith) c.loop-i.invariant.1
