-- `outcomes::collisions` meets its contract: the status is pushed, and the transmitter is off. Assumes nothing.
use mathlib.Core.Path.{ap, ◌∙◌}
use Prim.Native.Nat.{ℕ}
use Rattle.transmit_rules.specs.Outcome as outcome
use Rattle.transmit_rules.specs.Outcome.{push, off}
use Rattle.transmit_rules.specs.OutcomesView.{reports_of}
use Rattle.transmit.proofs.outcomes.collisions.Goals as goal

pub returns : goal.returns
unfolding outcome.collided
returns c =
    let o = c.args.o in
    record { tells = ap off (c.report-o.ensures.tells ∙ ap (λ (v : ℕ). push v (reports_of o)) c.collision_status.ensures.0); stacked = c.report-o.ensures.stacked }
