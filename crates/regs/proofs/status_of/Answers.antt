-- `regs::status_of` meets its contract: the window is at most 7, so that the sum fits. Assumes nothing.
use native.Mathlib.Omega.{arith}
use Rattle.card_rules.specs.Status.{status_of}
use Rattle.card_rules.proofs.Ranges.{window-small}
use Rattle.regs.proofs.status_of.Goals as goal

pub overflow_mul-result : goal.overflow_mul-result
overflow_mul-result c = omega (arith, window-small c.args.s c.requires)

pub overflow_add-result-7 : goal.overflow_add-result-7
overflow_add-result-7 c =
    omega (arith, window-small c.args.s c.requires)

pub returns : goal.returns
unfolding status_of
returns c = omega arith
