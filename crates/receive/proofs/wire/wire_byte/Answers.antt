-- `wire::wire_byte` meets its contract: where the wire stores its frame the newest takes the byte, and else nothing changes. Assumes nothing.
use borrow.Author.Tests.{eq-eqb, ne_eqb}
use Rattle.receive_rules.specs.Wire.{wire_byte}
use Rattle.receive_rules.proofs.Facts.{stored-order, stored_some}
use Rattle.receive_rules.proofs.Steps.{step_same, step-turns}
use Rattle.receive.proofs.wire.wire_byte.Goals as goal

pub store_byte-requires : goal.store_byte-requires
store_byte-requires c =
    let s = c.args in
    let p = c.requires in
    let h = c.if-r-eq2.true in
    (p.packed, stored_some s.size s.r s.ram.now s.dir.now p h, p.small, stored-order s.size s.r s.ram.now s.dir.now p h)

pub returns-then-r-eq2 : goal.returns-then-r-eq2
unfolding wire_byte
returns-then-r-eq2 c =
    let s = c.args in
    step-turns s.size s.r s.ram.now s.dir.now _ _ _ _ c.store_byte.ensures (rw (eq-eqb _ _ c.if-r-eq2.true))

pub returns-else-r-eq2 : goal.returns-else-r-eq2
unfolding wire_byte
returns-else-r-eq2 c =
    let s = c.args in
    step_same s.size s.r s.ram.now s.dir.now _ c.requires.packed (rw (ne_eqb _ _ c.if-r-eq2.false))
