-- `each` meets its contract: one card more is stepped with each turn.
-- Assumes nothing.
use Rattle.std.proofs.Common.{refl, ◌∙◌, arith}
use Rattle.bits.specs.UpTo.{up_to}
use Rattle.bits.proofs.UpTo.{up_to_turn, up_to_all}
use Rattle.lent_port.proofs.look.each.Goals as goal

pub loop-card-init : goal.loop-card-init
unfolding up_to
loop-card-init g c = λ f h. refl

pub loop-card-preserved : goal.loop-card-preserved
loop-card-preserved g c = λ f h. up_to_turn _ _ _ _ _ _ (c.loop-card.invariant f h) (h _ _ c.step.ensures)

pub returns : goal.returns
returns g c = λ f h. c.loop-card.invariant f h ∙ up_to_all _ _ _ (omega arith)
