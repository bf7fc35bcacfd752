-- The reports that the registers hold. Assumes nothing.
use Rattle.std.specs.Prelude.{◌≡◌, Bool, ◌&&◌, ◌≤◌, leb}
-- the first `count` entries
pub use Rattle.transmit_rules.specs.Stack.{stack}
use Rattle.transmit_rules.specs.declared.Outcomes.{Outcomes}
use Rattle.transmit_rules.specs.Reports.{Reports}
use Rattle.transmit_rules.specs.Outcome.{filled}

abbrev pub reports_of : Outcomes → Reports
reports_of o = record { sender = o.sender; statuses = stack o.statuses }

-- no more statuses than entries
abbrev pub Stacked : Outcomes → Type 0
Stacked o = o.statuses.count ≤ 31

-- the registers and the stack are q
pub record Reported (o : Outcomes) (q : Reports) : Type 0 where
  pub tells : reports_of o ≡ q
  pub stacked : Stacked o

-- The test that a call makes of what it is handed.
unfoldable pub sound_outcomes : Outcomes → Bool
sound_outcomes o = leb o.statuses.count 31 && filled (reports_of o)
