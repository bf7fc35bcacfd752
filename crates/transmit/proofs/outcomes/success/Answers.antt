-- `outcomes::success` meets its contract: a status is pushed where one was wanted. Assumes nothing.
use mathlib.Core.Path.{refl}
use Rattle.transmit_rules.specs.Outcome as outcome
use Rattle.transmit.proofs.outcomes.success.Goals as goal

pub returns-then-wanted : goal.returns-then-wanted
unfolding outcome.succeeded
returns-then-wanted c = rw c.if-wanted.true c.report.ensures

pub returns : goal.returns
unfolding outcome.succeeded
returns c = rw c.if-wanted.false (record { tells = refl; stacked = c.requires })
