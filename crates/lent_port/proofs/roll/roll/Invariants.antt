-- The cards before the i-th are entered.
-- Assumes nothing.
use Rattle.std.proofs.Common.{◌≡◌, ◌-◌, ◌++◌, map, take}
use Rattle.std.proofs.Common.{replicate}
use Rattle.port_rules.specs.Search.{all_ones}
use Rattle.found.specs.Theorems.{All}
use Rattle.lent_port.specs.Roll.{takes_part, Worded}
use Rattle.lent_port.proofs.roll.roll.Given as goal

abbrev pub invariant-loop-i : goal.invariant-loop-i
invariant-loop-i l = (l.addresses ≡ map (takes_part l.x) (take l.i l.cards) ++ replicate (8 - l.i) all_ones) × All Worded (take l.i l.cards)
