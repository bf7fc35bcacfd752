-- The driver's calls: some result x meets the contract of the public call, and r is x in numbers. That contract determines x. Assumes nothing.
use Rattle.std.specs.Prelude.{◌≡◌, List, ℕ, length, take, eqb, ⊤}
use Rattle.std.specs.Borrow.{Bor}
use Rattle.card_rules.specs.declared.Card.{Card}
use Rattle.driver_rules.specs.declared.Driver.{Driver}
use Rattle.driver_rules.specs.declared.After.{After}
use Rattle.driver_rules.specs.declared.Serviced.{Serviced}
use Rattle.driver_rules.specs.Calls as call
use Rattle.driver_rules.specs.HandUp as up
use Rattle.codes.specs.declared.drivers.DriverDone.{DriverDone}
use Rattle.codes.specs.declared.drivers.DriverSent.{DriverSent}
use Rattle.codes.specs.declared.drivers.DriverServed.{DriverServed}
use Rattle.codes.specs.declared.drivers.HandedUp.{HandedUp}
use Rattle.codes.specs.Codes.{coded_opened, coded_sent, coded_served, coded_part}

abbrev pub Opens : Card → List ℕ → List ℕ → Driver → ℕ → ℕ → ℕ → DriverDone → List ℕ → List ℕ → Type 0
Opens c ram dir d w₀ w₁ w₂ r ram' dir' = (x : After ⊤) × ((r ≡ coded_opened x) × call.Opens c ram dir d w₀ w₁ w₂ x ram' dir')

abbrev pub Sends : Card → List ℕ → List ℕ → Driver → List ℕ → DriverSent → List ℕ → List ℕ → Type 0
Sends c ram dir d packet r ram' dir' = (x : After ℕ) × ((r ≡ coded_sent x) × call.Sends c ram dir d packet x ram' dir')

abbrev pub Services : Card → List ℕ → List ℕ → Driver → ℕ → List ℕ → List ℕ → DriverServed → List ℕ → List ℕ → List ℕ → List ℕ → Type 0
Services c ram dir d budget ahead frame r ram' dir' ahead' frame' =
    (x : Serviced) × ((r ≡ coded_served x) × call.Services c ram dir d budget ahead frame x ram' dir' ahead' frame')

-- The area that a number names: 1 the lookahead area, 2 the frame area.
abbrev pub named : {A : Type 0} → ℕ → A → A → A
named number look frame = up.pick (eqb number 1) look frame

-- Some part meets the contract of `hand_up`, and r tells where it lies: it is the first n bytes of the area that r names, by bytes and place.
pub record HandsUp (look frame : Bor (List ℕ)) (count : ℕ) (r : HandedUp) : Type 0 where
  pub part : Bor (List ℕ)
  pub meets : up.HandsUp look frame count part
  pub told : r ≡ coded_part count (length part.now)
  pub bytes : part.now ≡ take r.n (named r.area look frame).now
  pub place : part.ref_ptr ≡ (named r.area look frame).ref_ptr
