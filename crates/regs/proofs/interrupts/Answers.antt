-- `regs::interrupts` meets its contract: it is the definition's formula over six flags. Assumes nothing.
use mathlib.Core.Bool.{or_assoc}
use Rattle.card_rules.specs.Status.{interrupting}
use Rattle.regs.proofs.interrupts.Goals as goal

pub returns : goal.returns
unfolding interrupting
returns c =
    rw (
      c.rises-6.ensures,
      c.rises-5.ensures,
      c.rises-4.ensures,
      c.rises-3.ensures,
      c.rises-2.ensures,
      c.rises.ensures,
      or_assoc,
      or_assoc,
      or_assoc,
      or_assoc,
    )
