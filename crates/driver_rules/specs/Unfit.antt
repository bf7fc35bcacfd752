-- Refusal 5 comes at the first Status read of a service or not at all, so that it changes nothing. Assumes nothing.
use Rattle.std.specs.Prelude.{◌≡◌, [], ◌∷◌, ℕ, Err}
use Rattle.refusal.specs.declared.Refusal.TheVariants.{CardUnfit}
use Rattle.card_rules.specs.Adapter.{Adapter}
use Rattle.card_rules.specs.Access.{ReadWord}
use Rattle.driver_rules.specs.declared.Driver.{Driver}
use Rattle.driver_rules.specs.Registers.{status_port}
use Rattle.driver_rules.specs.Talk.{run}
use Rattle.driver_rules.specs.Service.{look_talk}

-- the Status read is the one access made
abbrev pub UnfitComesAtOnce : Type 0
UnfitComesAtOnce =
    (budget : ℕ) (d : Driver) (a : Adapter) → (run (look_talk budget d) a).answer.answer ≡ Err CardUnfit → (run (look_talk budget d) a).made ≡ ReadWord status_port ∷ []
