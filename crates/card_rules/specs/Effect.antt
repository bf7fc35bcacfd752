-- What the contracts of the effects name: the frames that are taken. Assumes nothing.
use Rattle.std.specs.Prelude.{List, Bool, ◌&&◌, ℕ}
use Rattle.receive_rules.specs.Wire.{passes}
use Rattle.card_rules.specs.Adapter.{Adapter}

-- The card is active, and its filter takes the frame.
abbrev pub taken : List ℕ → Adapter → Bool
taken first a = a.id.active && passes a.select.filter a.config.station first
