-- `transmit::success` meets its contract: the oldest packet is told and leaves, and the success is reported as the packet wants it. Assumes nothing.
use Rattle.transmit_rules.specs.Outcome as outcome
use Rattle.transmit_rules.specs.OutcomesView.{reports_of}
use Rattle.transmit_rules.specs.Tx.{success}
use Rattle.transmit_rules.proofs.Sound.{fifo_holds}
use Rattle.transmit_rules.proofs.Steps.{step-turns, report_as}
use Rattle.transmit.proofs.success.Goals as goal

pub oldest_wanted-wanted-requires : goal.oldest_wanted-wanted-requires
oldest_wanted-wanted-requires c =
    let s = c.args in (fifo_holds s.size s.t s.ram.now s.dir.now c.requires.0, c.requires.1)

pub tell-n-requires : goal.tell-n-requires
tell-n-requires c =
    let s = c.args in (fifo_holds s.size s.t s.ram.now s.dir.now c.requires.0, c.requires.1, c.requires.2)

pub leave_first-fifo-requires : goal.leave_first-fifo-requires
leave_first-fifo-requires c =
    let s = c.args in (fifo_holds s.size s.t s.ram.now s.dir.now c.requires.0, c.requires.1)

pub returns : goal.returns
unfolding success
returns c =
    let s = c.args in
    record { step = step-turns s.size _ _ s.ram.now s.dir.now _ _ _ _ c.leave_first-fifo.ensures (report_as _ (λ b. outcome.succeeded b (reports_of s.t.outcomes)) _ _ c.oldest_wanted-wanted.ensures c.success-outcomes.ensures); tells = c.tell-n.ensures }
