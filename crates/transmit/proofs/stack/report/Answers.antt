-- `stack::report` meets its contract: each of its three ways is one of the definition's. Assumes nothing.
use mathlib.Core.Path.{ap, ◌∙◌}
use native.Mathlib.Omega.{arith}
use borrow.Author.Rules.{rules}
use Rattle.transmit_rules.proofs.StackEntries.{stack-length}
use Rattle.transmit_rules.specs.Outcome.{off}
use Rattle.transmit_rules.specs.OutcomesView.{reports_of}
use Rattle.transmit_rules.proofs.Entries.{push-room, push_fills, push-full}
use Rattle.transmit.proofs.stack.report.Goals as goal

pub returns-then-o-lt30 : goal.returns-then-o-lt30
returns-then-o-lt30 c =
    let s = c.args in
    let n = stack-length s.o.statuses (search rules) c.requires.0 in
    record { tells = c.push_status.ensures.tells ∙ push-room (reports_of s.o) s.v (omega (arith, c.if-o-lt30.true)); stacked = c.push_status.ensures.stacked }

pub returns-then-o-lt31 : goal.returns-then-o-lt31
returns-then-o-lt31 c =
    let s = c.args in
    let n = stack-length s.o.statuses (search rules) c.requires.0 in
    record {
      tells = ap off c.push_status-full.ensures.tells ∙ push_fills (reports_of s.o) s.v (omega (arith, c.if-o-lt30.false)) (omega (arith, c.if-o-lt31.true));
      stacked = c.push_status-full.ensures.stacked;
    }

pub returns : goal.returns
returns c =
    let s = c.args in
    let n = stack-length s.o.statuses (search rules) c.requires.0 in
    record { tells = push-full (reports_of s.o) s.v (omega (arith, c.if-o-lt31.false)); stacked = c.requires.0 }
