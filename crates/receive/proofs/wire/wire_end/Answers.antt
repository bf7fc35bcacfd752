-- `wire::wire_end` meets its contract: the newest frame's flags are those of its ending, and an ignored frame leaves no more than an idle wire. Assumes nothing.
use borrow.Author.Tests.{eq-eqb, ne_eqb}
use native.Mathlib.Omega.{arith}
use Rattle.receive_rules.specs.Wire.{wire_end}
use Rattle.receive_rules.proofs.Facts.{stored_some}
use Rattle.receive_rules.proofs.Steps.{step_same, step-turns}
use Rattle.receive.proofs.Paths.{frame-ends}
use Rattle.receive.proofs.wire.wire_end.Goals as goal

pub returns-else-stored : goal.returns-else-stored
unfolding wire_end
returns-else-stored c =
    let s = c.args in
    step_same s.size _ s.ram.now s.dir.now _ c.requires.packed (rw (ne_eqb _ _ c.if-stored.false))

pub overflow_sub-last : goal.overflow_sub-last
overflow_sub-last c = omega (arith, (stored_some c.args.size c.args.r c.args.ram.now c.args.dir.now c.requires c.if-stored.true))

pub set_head-requires : goal.set_head-requires
set_head-requires c =
    (rw c.area.ensures c.requires.packed, (stored_some c.args.size c.args.r c.args.ram.now c.args.dir.now c.requires c.if-stored.true), c.end_head.ensures.1)

pub returns-then-stored : goal.returns-then-stored
unfolding wire_end
returns-then-stored c =
    let s = c.args in
    step-turns s.size _ s.ram.now s.dir.now _ _ _ _
    (frame-ends s.size s.r.frames _ s.check s.alignment s.ram.now s.dir.now _ _ c.requires.packed ((stored_some c.args.size c.args.r c.args.ram.now c.args.dir.now c.requires c.if-stored.true)) c.end_head.ensures.0 (rw c.area.ensures at c.set_head.ensures))
    (rw (eq-eqb _ _ c.if-stored.true))
