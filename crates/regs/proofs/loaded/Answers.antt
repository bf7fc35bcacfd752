-- `regs::loaded` meets its contract: its registers are those of the definition of power-on. Assumes nothing.
use mathlib.Core.Path.{refl}
use Rattle.card_rules.specs.Power.{power_on}
use Rattle.regs.proofs.loaded.Goals as goal

pub returns : goal.returns
unfolding power_on
returns c = refl
