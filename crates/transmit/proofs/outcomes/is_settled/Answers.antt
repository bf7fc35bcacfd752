-- `outcomes::is_settled` meets its contract: its formula is the definition's. Assumes nothing.
use mathlib.Core.Path.{refl}
use Rattle.transmit_rules.specs.Outcome.{due}
use Rattle.transmit.proofs.outcomes.is_settled.Goals as goal

pub returns : goal.returns
unfolding due
returns c = refl
