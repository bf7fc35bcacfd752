-- `card::power_on` meets its contract: power-on is kept, and settled already. Assumes nothing.
use Rattle.card_rules.proofs.Power.{power_on_stands}
use Rattle.card.proofs.power_on.Goals as goal

pub returns : goal.returns
returns c = power_on_stands _ _ c.power_on.ensures
