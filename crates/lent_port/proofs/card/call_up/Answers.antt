-- `call_up` meets its contract: with each turn one byte of the sequence fewer is left.
-- Assumes nothing.
use Rattle.std.proofs.Common.{arith}
use Rattle.lent_port.proofs.Loops.{called_turn, called_end}
use Rattle.lent_port.proofs.card.call_up.Goals as goal

pub loop-i-preserved : goal.loop-i-preserved
loop-i-preserved c = called_turn _ c.loop-i.i _ _ _ _ (omega arith) c.byte_at.ensures c.id_write-s-in-loop-i.ensures c.loop-i.invariant

pub returns : goal.returns
returns c = called_end _ c.loop-i.i _ _ _ _ (omega arith) (omega arith) c.id_write-once.ensures c.id_write-s.ensures c.loop-i.invariant
