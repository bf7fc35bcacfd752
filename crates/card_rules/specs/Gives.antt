-- What a step function of the code gives: the value, and the card after the step, sound. Assumes nothing.
use Rattle.std.specs.Prelude.{◌≡◌, List, ℕ}
use Rattle.card_rules.specs.declared.Card.{Card}
use Rattle.card_rules.specs.View.{Stands}
use Rattle.card_rules.specs.Access.{Step}

pub record Gives (r : Card) (v : ℕ) (ram dir : List ℕ) (s : Step) : Type 0 where
  pub value : v ≡ s.value
  pub stands : Stands r ram dir s.adapter
