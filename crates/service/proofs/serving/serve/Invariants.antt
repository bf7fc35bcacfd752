-- `serving::serve`: the loop keeps `Going`: the run of what is left is the rest of the run; and `First`: all of it, if no discard was made. Assumes nothing.
use Rattle.card_rules.specs.View.{view, Sound}
use Rattle.driver_rules.specs.Talk.{run}
use Rattle.driver_rules.specs.Service.{look_talk}
use Rattle.driver_rules.proofs.Going as ways
use Rattle.driver_rules.proofs.ServingUnmoved.{First}
use Rattle.service.proofs.serving.serve.Given as goal

abbrev pub invariant-loop-answer : goal.invariant-loop-answer
invariant-loop-answer l = Sound l.at l.ram l.dir × (First (run (look_talk l.budget l.initial.driver) (view l.initial.at l.initial.ram l.initial.dir)) (run (look_talk l.left l.driver) (view l.at l.ram l.dir)) l.initial.at l.at l.initial.ram l.initial.dir l.ram l.dir × ways.Going l.budget (run (look_talk l.budget l.initial.driver) (view l.initial.at l.initial.ram l.initial.dir)) l.left l.driver (view l.at l.ram l.dir) l.initial.ahead l.initial.frame l.ahead l.frame)

abbrev pub decreases-loop-answer : goal.decreases-loop-answer
decreases-loop-answer l = l.left
