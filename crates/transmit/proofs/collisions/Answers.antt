-- `transmit::collisions` meets its contract: the oldest packet leaves, and the collisions are reported as the packet wants it. Assumes nothing.
use Rattle.transmit_rules.specs.Outcome as outcome
use Rattle.transmit_rules.specs.OutcomesView.{reports_of}
use Rattle.transmit_rules.specs.Tx.{collisions}
use Rattle.transmit_rules.proofs.Sound.{fifo_holds}
use Rattle.transmit_rules.proofs.Steps.{step-turns, report_as}
use Rattle.transmit.proofs.collisions.Goals as goal

pub oldest_wanted-wanted-requires : goal.oldest_wanted-wanted-requires
oldest_wanted-wanted-requires c =
    let s = c.args in (fifo_holds s.size s.t s.ram.now s.dir.now c.requires.0, c.requires.1)

pub leave_first-fifo-requires : goal.leave_first-fifo-requires
leave_first-fifo-requires c =
    let s = c.args in (fifo_holds s.size s.t s.ram.now s.dir.now c.requires.0, c.requires.1)

pub returns : goal.returns
unfolding collisions
returns c =
    let s = c.args in
    step-turns s.size _ _ s.ram.now s.dir.now _ _ _ _ c.leave_first-fifo.ensures (report_as _ (λ b. outcome.collided b (reports_of s.t.outcomes)) _ _ c.oldest_wanted-wanted.ensures c.collisions-outcomes.ensures)
