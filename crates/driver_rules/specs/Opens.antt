-- What the contract of an open says of its run. Assumes nothing.
use Rattle.std.specs.Prelude.{◌≡◌, true, false, List, ℕ, ⊤}
use Rattle.card_rules.specs.declared.Card.{Card}
use Rattle.card_rules.specs.View.{Stands}
use Rattle.driver_rules.specs.Talk.{Ran}
use Rattle.driver_rules.specs.declared.After.{After}
use Rattle.driver_rules.specs.Open.{Opening, refusing}

-- Answer and driver are those of the run R; so is the card where the driver is opened, and a refusal changes nothing.
pub record Opens (R : Ran Opening) (c : Card) (ram dir : List ℕ) (r : After ⊤) (ram' dir' : List ℕ) : Type 0 where
  pub answer : r.answer ≡ R.answer.answer
  pub driver : r.driver ≡ R.answer.driver
  pub taken : refusing r.answer ≡ false → Stands r.card ram' dir' R.adapter
  pub kept : refusing r.answer ≡ true → (r.card ≡ c) × ((ram' ≡ ram) × (dir' ≡ dir))
