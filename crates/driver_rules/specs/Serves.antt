-- What the contracts say of a part of a service. Assumes nothing.
use Rattle.std.specs.Prelude.{◌≡◌, Bool, true, false, ◌&&◌, ◌||◌, List, [], ◌∷◌, ℕ, ◌<◌, ◌+◌, length, eqb, Result, Ok, Err, Option, Some, None}
use Rattle.refusal.specs.declared.Refusal.{Refusal}
use Rattle.card_rules.specs.declared.Card.{Card}
use Rattle.card_rules.specs.Adapter.{Adapter}
use Rattle.card_rules.specs.Access.{Access, ReadWord, ReadByte, WriteWord, WriteByte}
use Rattle.driver_rules.specs.Registers.{command_port, rx_discard}
use Rattle.driver_rules.specs.Talk.{Ran, run}
use Rattle.driver_rules.specs.declared.Served.{Served}
use Rattle.driver_rules.specs.declared.Item.{Item}
use Rattle.driver_rules.specs.Items.{Serving}
use Rattle.driver_rules.specs.Meets.{Ended}
use Rattle.driver_rules.specs.Service.{look_talk}

abbrev pub is_discard : Access → Bool
is_discard (ReadWord o) = false
is_discard (ReadByte o) = false
is_discard (WriteWord o v) = eqb o command_port && eqb v rx_discard
is_discard (WriteByte o v) = false

-- RX Discard is among the accesses.
unfoldable pub discarded : List Access → Bool
discarded [] = false
discarded (x ∷ xs) = is_discard x || discarded xs

-- The answer is a refusal: once begun, 5 or 6.
abbrev pub stopped : Result Item Refusal → Bool
stopped (Ok item) = false
stopped (Err why) = true

-- with `left` accesses the run R goes on as the run Q with `more`
pub record GoesOn (left : ℕ) (R : Ran Serving) (more : ℕ) (Q : Ran Serving) : Type 0 where
  pub answer : R.answer ≡ Q.answer
  pub adapter : R.adapter ≡ Q.adapter
  pub count : length R.made + more ≡ left + length Q.made

-- After a discard the run R goes on with a look, and has handed up nothing yet.
pub record Paused (left : ℕ) (R : Ran Serving) (r : Served) (s : Adapter) (l₀ f₀ l f : List ℕ) : Type 0 where
  pub on : GoesOn left R r.left (run (look_talk r.left r.driver) s)
  pub less : r.left < left
  pub discard : discarded R.made ≡ true
  pub look : l ≡ l₀
  pub frame : f ≡ f₀

unfoldable pub Meets : Option (Result Item Refusal) → ℕ → Ran Serving → Served → Adapter → List ℕ → List ℕ → List ℕ → List ℕ → Type 0
Meets (Some x) left R r s l₀ f₀ l f = Ended left R r s l₀ f₀ l f
Meets None left R r s l₀ f₀ l f = Paused left R r s l₀ f₀ l f

-- Refused with nothing finished, no discard made, a part of a service leaves card and memory byte for byte as they came.
pub record Unmoved (R : Ran Serving) (c r : Card) (ram dir ram' dir' : List ℕ) : Type 0 where
  pub same : stopped R.answer.answer ≡ true → discarded R.made ≡ false → (r ≡ c) × ((ram' ≡ ram) × (dir' ≡ dir))
