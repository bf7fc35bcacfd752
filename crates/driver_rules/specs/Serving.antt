-- What the contract says of the run of a whole service. Assumes nothing.
use Rattle.std.specs.Prelude.{◌≡◌, List, ℕ, length}
use Rattle.card_rules.specs.Adapter.{Adapter}
use Rattle.driver_rules.specs.Talk.{Ran}
use Rattle.driver_rules.specs.Items.{Serving}
use Rattle.driver_rules.specs.Areas.{in_look, in_frame}
use Rattle.driver_rules.specs.declared.Serviced.{Serviced}

-- The whole service: answer, driver, count, adapter and both areas are those of the run R.
pub record Serves (R : Ran Serving) (r : Serviced) (s : Adapter) (l₀ f₀ l f : List ℕ) : Type 0 where
  pub answer : r.answer ≡ R.answer.answer
  pub driver : r.driver ≡ R.answer.driver
  pub used : r.used ≡ length R.made
  pub adapter : s ≡ R.adapter
  pub look : l ≡ in_look R.answer.bytes l₀
  pub frame : f ≡ in_frame R.answer.bytes f₀
