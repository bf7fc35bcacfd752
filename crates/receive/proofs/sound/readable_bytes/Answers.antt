-- `sound::readable_bytes` meets its contract: the oldest frame's word says how many bytes there are, and whether it has ended. Assumes nothing.
use borrow.Author.Tests.{le-leb, lt-leb}
use native.Mathlib.Omega.{arith}
use lib.Dec.{lit<}
use Rattle.receive_rules.specs.Reading.{readable}
use Rattle.receive_rules.proofs.Oldest.{none, readable-some}
use Rattle.receive.proofs.sound.readable_bytes.Goals as goal

pub returns-then-count-eq0 : goal.returns-then-count-eq0
unfolding readable
returns-then-count-eq0 c = (rw (none _ _ _ _ c.if-count-eq0.true), lit< tt)

pub returns-then-w-ge-COMING : goal.returns-then-w-ge-COMING
returns-then-w-ge-COMING c =
    let s = c.args in
    (rw (readable-some s.size s.count s.ram.now s.dir.now c.requires c.if-count-eq0.false, le-leb _ _ c.if-w-ge-COMING.true), omega arith)

pub returns : goal.returns
returns c =
    let s = c.args in
    (rw (readable-some s.size s.count s.ram.now s.dir.now c.requires c.if-count-eq0.false, lt-leb _ _ c.if-w-ge-COMING.false) (omega (arith, c.next_multiple_of.ensures)), omega (arith, c.next_multiple_of.ensures))
