-- `opening::order`: the loop keeps that what is left to order is the rest of the commands. Assumes nothing.
use Rattle.std.proofs.Common.{◌≡◌, drop, map}
use Rattle.card_rules.specs.View.{view, Sound}
use Rattle.driver_rules.specs.Talk.{after}
use Rattle.driver_rules.specs.Open.{command}
use Rattle.opening.proofs.order.Given as goal

abbrev pub invariant-loop-command : goal.invariant-loop-command
invariant-loop-command l = Sound l.at l.ram l.dir × (after (map command l.commands) (view l.initial.at l.initial.ram l.initial.dir) ≡ after (map command (drop l.command-index l.commands)) (view l.at l.ram l.dir))
