-- `reading::rx_complete` meets its contract: bit 15 of the oldest frame's word says whether it is still coming. Assumes nothing.
use Rattle.receive_rules.specs.Reading.{complete}
use lib.ListN.{get_or}
use Rattle.receive_rules.proofs.Oldest.{none}
use Rattle.receive_rules.proofs.Order.{below-not}
use Rattle.receive.proofs.Word.{complete-some}
use Rattle.receive.proofs.reading.rx_complete.Goals as goal

pub returns-then-r-eq0 : goal.returns-then-r-eq0
unfolding complete
returns-then-r-eq0 c = rw (none _ _ _ _ c.if-r-eq0.true)

pub returns : goal.returns
returns c =
    let s = c.args in
    rw (complete-some s.size s.r.frames s.ram.now s.dir.now c.requires.packed c.if-r-eq0.false) (below-not 32768 (get_or s.dir.now 0 0))
