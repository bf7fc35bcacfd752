-- `regs::select_sound` meets its contract: it is the definition's formula. Assumes nothing.
use mathlib.Core.Bool.{and_assoc}
use Rattle.card_rules.specs.Sound.{select_sound}
use Rattle.regs.proofs.select_sound.Goals as goal

pub returns : goal.returns
unfolding select_sound
returns c = rw (and_assoc, and_assoc, and_assoc, and_assoc, and_assoc, and_assoc)
