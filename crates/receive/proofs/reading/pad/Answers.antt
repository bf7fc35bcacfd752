-- `reading::pad` meets its contract: the oldest frame's word says how many bytes there are, and whether it has ended. Assumes nothing.
use borrow.Author.Tests.{le-leb, lt-leb}
use native.Mathlib.Omega.{arith}
use lib.Dec.{lit<}
use lib.ListN.{get_or}
use Rattle.receive_rules.proofs.Oldest.{none}
use Rattle.receive.proofs.Word.{pad_some}
use Rattle.receive.proofs.reading.pad.Goals as goal

pub returns-then-count-eq0 : goal.returns-then-count-eq0
returns-then-count-eq0 c = (rw (none _ _ _ _ c.if-count-eq0.true), lit< tt)

pub returns-then-ended : goal.returns-then-ended
returns-then-ended c =
    let s = c.args in
    (rw (pad_some s.size s.count s.ram.now s.dir.now c.requires c.if-count-eq0.false, lt-leb 32768 (get_or s.dir.now 0 0) (omega (arith, c.if-ended.true))) (omega (arith, c.next_multiple_of.ensures)), omega (arith, c.next_multiple_of.ensures))

pub returns : goal.returns
returns c =
    let s = c.args in
    (rw (pad_some s.size s.count s.ram.now s.dir.now c.requires c.if-count-eq0.false, le-leb 32768 (get_or s.dir.now 0 0) (omega (arith, c.if-ended.false))), lit< tt)
