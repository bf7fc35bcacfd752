-- Demand 1 of the driver's service: refused, but for 6, it leaves card, driver, memory and both areas just as they came; 6 leaves driver and areas, and with no discard made card and memory too. Assumes nothing.
use Rattle.std.specs.Prelude.{◌≡◌, true, false, List, ℕ, ◌<◌, Err}
use Rattle.card_rules.specs.declared.Card.{Card}
use Rattle.card_rules.specs.View.{view}
use Rattle.card_rules.specs.Access.{Access}
use Rattle.driver_rules.specs.declared.Driver.{Driver}
use Rattle.driver_rules.specs.declared.Serviced.{Serviced}
use Rattle.refusal.specs.declared.Refusal.TheVariants.{BudgetShort}
use Rattle.driver_rules.specs.Talk.{run}
use Rattle.driver_rules.specs.Serves.{discarded}
use Rattle.driver_rules.specs.Paper.{service_paper}
use Rattle.driver_rules.specs.Calls.{sound_state, large, service_call, Services}
use Rattle.fits.specs.Agree.{is_refused}

-- the driver and the two lent areas, as they came
pub record Left (d : Driver) (look frame : List ℕ) (r : Serviced) (look' frame' : List ℕ) : Type 0 where
  pub driver : r.driver ≡ d
  pub lookahead : look' ≡ look
  pub frames : frame' ≡ frame

-- .. and the card with its memory
pub record AsItCame (c : Card) (ram dir : List ℕ) (d : Driver) (look frame : List ℕ) (r : Serviced) (ram' dir' look' frame' : List ℕ) : Type 0 where
  pub card : r.card ≡ c
  pub memory : ram' ≡ ram
  pub directory : dir' ≡ dir
  pub left : Left d look frame r look' frame'

abbrev pub ARefusedServiceChangesNothing : Type 0
ARefusedServiceChangesNothing =
    (c : Card) (ram dir : List ℕ) (d : Driver) (budget : ℕ) (look frame : List ℕ) (r : Serviced) (ram' dir' look' frame' : List ℕ) →
    Services c ram dir d budget look frame r ram' dir' look' frame' → is_refused (service_paper r.answer r.used) ≡ true →
    AsItCame c ram dir d look frame r ram' dir' look' frame'

-- the accesses that a service makes
abbrev pub made : Card → List ℕ → List ℕ → Driver → ℕ → List ℕ → List ℕ → List Access
made c ram dir d budget look frame = (run (service_call (sound_state c ram dir d) (large look frame) d budget) (view c ram dir)).made

-- Short of budget: what was finished, a discard, is kept; where none was made, nothing has changed.
abbrev pub AServiceShortOfBudgetLeavesDriverAndAreas : Type 0
AServiceShortOfBudgetLeavesDriverAndAreas =
    (c : Card) (ram dir : List ℕ) (d : Driver) (budget : ℕ) (look frame : List ℕ) (r : Serviced) (ram' dir' look' frame' : List ℕ) →
    Services c ram dir d budget look frame r ram' dir' look' frame' → r.answer ≡ Err BudgetShort → Left d look frame r look' frame'
    × (discarded (made c ram dir d budget look frame) ≡ false → AsItCame c ram dir d look frame r ram' dir' look' frame')

-- A discard is the third access at the earliest: with a budget below 3, answer 6 changes nothing.
abbrev pub AServiceShortOfABudgetBelow3ChangesNothing : Type 0
AServiceShortOfABudgetBelow3ChangesNothing =
    (c : Card) (ram dir : List ℕ) (d : Driver) (budget : ℕ) (look frame : List ℕ) (r : Serviced) (ram' dir' look' frame' : List ℕ) →
    Services c ram dir d budget look frame r ram' dir' look' frame' → r.answer ≡ Err BudgetShort → budget < 3 →
    AsItCame c ram dir d look frame r ram' dir' look' frame'
