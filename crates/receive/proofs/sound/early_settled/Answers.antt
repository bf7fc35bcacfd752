-- `sound::early_settled` meets its contract: it tests what the oldest frame's word says. Assumes nothing.
use borrow.Author.Tests.{le-leb, lt-leb}
use Rattle.receive_rules.specs.Sound.{early_settled}
use Rattle.receive_rules.proofs.Oldest.{none, settled_some}
use Rattle.receive.proofs.sound.early_settled.Goals as goal

pub returns-then-count-eq0 : goal.returns-then-count-eq0
unfolding early_settled
returns-then-count-eq0 c = rw (none _ _ _ _ c.if-count-eq0.true)

pub returns-then-w-lt-COMING : goal.returns-then-w-lt-COMING
returns-then-w-lt-COMING c =
    let s = c.args in
    rw (settled_some s.size s.count s.ram.now s.dir.now c.requires c.if-count-eq0.false s.r, lt-leb _ _ c.if-w-lt-COMING.true)

pub returns : goal.returns
returns c =
    let s = c.args in
    rw (settled_some s.size s.count s.ram.now s.dir.now c.requires c.if-count-eq0.false s.r, le-leb _ _ c.if-w-lt-COMING.false)
