-- `through` meets its contract: one round fewer is left with each turn, and the last reads all ones, if a tag is left.
-- Assumes nothing.
use Rattle.std.proofs.Common.{refl, arith}
use Rattle.lent_port.proofs.Loops.{through_turn, through-ones, through-end}
use Rattle.lent_port.proofs.roll.through.Goals as goal

pub loop-i-preserved : goal.loop-i-preserved
loop-i-preserved c = through_turn _ c.loop-i.i 0 _ c.args.addresses.now _ _ _ _ (omega arith) c.loop-i-test.true refl refl c.round-s.ensures c.loop-i.invariant

pub returns-then-addresses-lt7 : goal.returns-then-addresses-lt7
returns-then-addresses-lt7 c = through-ones _ c.loop-i.i c.args.addresses.now _ _ _ (omega arith) c.loop-i-test.false (rw (c.hear.ensures, c.call_up-called.ensures)) c.loop-i.invariant

pub returns : goal.returns
returns c = through-end _ c.loop-i.i c.args.addresses.now _ _ (omega arith) c.loop-i.invariant
