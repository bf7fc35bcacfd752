-- What two results of a call agree in. Assumes nothing.
use Rattle.std.specs.Prelude.{◌≡◌, Bool, true, false, List, ℕ}
use Rattle.port_rules.specs.declared.IdState.{IdState}
use Rattle.card_rules.specs.declared.Card.{Card}
use Rattle.card_rules.specs.Adapter.{Adapter}
use Rattle.card_rules.specs.View.{view}
use Rattle.card_rules.specs.Calls as card
use Rattle.card_rules.specs.Calls.{Reply}
use Rattle.driver_rules.specs.declared.Driver.{Driver}
use Rattle.driver_rules.specs.Paper as driver
use Rattle.driver_rules.specs.Paper.{Paper}

-- a result, and both areas of the card's memory after the call
pub record With (A : Type 0) : Type 0 where
  pub result : A
  pub ram : List ℕ
  pub dir : List ℕ

-- .. and the two areas of a service
pub record WithAreas (A : Type 0) : Type 0 where
  pub result : A
  pub ram : List ℕ
  pub dir : List ℕ
  pub look : List ℕ
  pub frame : List ℕ

-- an answer, and the slice of cards that was lent, after the call
pub record Over (A : Type 0) : Type 0 where
  pub answer : A
  pub cards : List IdState

-- the card with its memory at the end of a call
pub record End : Type 0 where
  pub card : Card
  pub ram : List ℕ
  pub dir : List ℕ

abbrev pub shown : End → Adapter
shown e = view e.card e.ram e.dir

-- The ends show the same adapter; where the call is refused, they are equal in every byte.
pub record SameEnd (refused : Bool) (e e' : End) : Type 0 where
  pub shows : shown e ≡ shown e'
  pub whole : refused ≡ true → e ≡ e'

abbrev pub is_refusal : Reply → Bool
is_refusal (card.refused n) = true
is_refusal card.done = false
is_refusal (card.value v) = false

-- a refusal that changes nothing; short of budget (6) keeps finished items
abbrev pub is_refused : Paper → Bool
is_refused driver.opened = false
is_refused (driver.ticket n) = false
is_refused (driver.report t s used) = false
is_refused (driver.status_alone s used) = false
is_refused (driver.frame n used) = false
is_refused (driver.idle used) = false
is_refused (driver.short used) = false
is_refused (driver.refused n) = true

-- what a call of the driver leaves: its answer, the driver, the card
pub record Left : Type 0 where
  pub paper : Paper
  pub driver : Driver
  pub end : End

pub record SameLeft (x x' : Left) : Type 0 where
  pub answer : x.paper ≡ x'.paper
  pub driver : x.driver ≡ x'.driver
  pub ends : SameEnd (is_refused x.paper) x.end x'.end
