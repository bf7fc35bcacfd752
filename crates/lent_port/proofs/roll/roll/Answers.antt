-- `roll` meets its contract: one card more is entered with each turn.
-- Assumes nothing.
use Rattle.lent_port.proofs.Loops.{entered_turn, worded_turn}
use Rattle.lent_port.proofs.roll.roll.Goals as goal

pub loop-i-preserved : goal.loop-i-preserved
loop-i-preserved c =
    let (part, words) = c.takes_part.ensures in
    (entered_turn _ _ _ c.loop-i-test.true _ _ _ c.requires part c.loop-i.invariant.0, worded_turn _ _ _ c.loop-i-test.true words c.loop-i.invariant.1)
