-- `serving::serve`: the loop keeps `Going`: the run of what is left is the rest of the run; and `First`: all of it, if no discard was made. Assumes nothing.
use native.Mathlib.Omega.{arith}
use Rattle.driver_rules.proofs.Going as ways
use Rattle.driver_rules.proofs.ServingUnmoved.{unmoved-done, unmoved_more}
use Rattle.service.proofs.serving.serve.Goals as goal

pub overflow_sub-result : goal.overflow_sub-result
overflow_sub-result c =
    omega (arith, ways.going_within _ _ _ _ _ _ _ _ _ c.loop-answer.invariant.1.1 _ _ _ _ c.look-s.ensures.0 _ c.in-Some.is)

pub returns-in-Some : goal.returns-in-Some
returns-in-Some c =
    (ways.going_done _ _ _ _ _ _ _ _ _ c.loop-answer.invariant.1.1 _ _ _ _ c.look-s.ensures.0 _ c.in-Some.is, (c.look-s.ensures.1.0, unmoved-done _ _ _ _ _ _ _ _ c.loop-answer.invariant.1.0 _ _ _ c.look-s.ensures.1.1))

pub loop-answer-smaller : goal.loop-answer-smaller
loop-answer-smaller c =
    ways.going_left _ _ _ _ _ _ _ _ _ c.loop-answer.invariant.1.1 _ _ _ _ c.look-s.ensures.0 (c.in_default.is)

pub loop-answer-preserved : goal.loop-answer-preserved
loop-answer-preserved c =
    (c.look-s.ensures.1.0, (unmoved_more _ _ _ _ _ _ _ _ c.loop-answer.invariant.1.0 (ways.going_discard _ _ _ _ _ _ _ _ _ c.loop-answer.invariant.1.1 _ _ _ _ c.look-s.ensures.0 (c.in_default.is)) _ _ _ _, ways.going_more _ _ _ _ _ _ _ _ _ c.loop-answer.invariant.1.1 _ _ _ _ c.look-s.ensures.0 (c.in_default.is)))
