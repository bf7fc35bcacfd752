-- What a call by value makes of a call over a slice.
-- Assumes nothing.
use Rattle.std.specs.Prelude.{◌≤◌, ◌<◌, ◌≡◌, List, cond}
use Rattle.refusal.specs.declared.Refusal.{Refusal}
use Rattle.refusal.specs.Number.{number_of}
use Rattle.port_rules.specs.declared.IdState.{IdState}
use Rattle.port_rules.specs.declared.Bus.{Bus}
use Rattle.port_rules.specs.Port.{held, seated}
use Rattle.port_rules.specs.Calls.{all_sound}

-- What the call over the cards that are there leaves and answers, joined to the places past them; a bus that counts more cards than its eight places is refused and stays as it is.
pub record Called {A : Type 0} (calls : List IdState → A → List IdState → Type 0) (refuses : Refusal → A → Type 0) (before after : Bus) (answer : A) : Type 0 where
  pub lent : before.count ≤ 8 → (zs : List IdState) × calls (held before) answer zs × (after ≡ seated zs before)
  pub crowded : 8 < before.count → (why : Refusal) × refuses why answer × (number_of why ≡ cond (all_sound (held before)) 12 1) × (after ≡ before)
