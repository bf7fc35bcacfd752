-- `transmit::settle` meets its contract: TX Available is settled with TX Free, or already without it, and the FIFO stays. Assumes nothing.
use mathlib.Core.Path.{sym}
use Rattle.transmit_rules.specs.Queue.{free}
use Rattle.transmit_rules.specs.QueueView.{queue_of}
use Rattle.transmit_rules.specs.Outcome.{settle_available}
use Rattle.transmit_rules.specs.OutcomesView.{reports_of}
use Rattle.transmit_rules.proofs.OutcomesKeeps.{settle-stays, known_settled}
use Rattle.transmit_rules.proofs.Sound.{unsettled_holds}
use Rattle.transmit_rules.proofs.Steps.{step-reports}
use Rattle.transmit.proofs.settle.Goals as goal

pub returns-then-s : goal.returns-then-s
returns-then-s c =
    let t = c.args.t in
    let q = free c.args.size (queue_of c.args.size t.fifo c.args.ram.now c.args.dir.now) in
    step-reports c.args.size t t.outcomes c.args.ram.now c.args.dir.now (settle_available q (reports_of t.outcomes)) c.requires.packed
    (record { tells = sym (settle-stays q (reports_of t.outcomes) (known_settled q t.outcomes.sender c.if-s.true)); stacked = c.requires.stacked })

pub fifo_free-free-requires : goal.fifo_free-free-requires
fifo_free-free-requires c = unsettled_holds c.args.size c.args.t c.args.ram.now c.args.dir.now c.requires
