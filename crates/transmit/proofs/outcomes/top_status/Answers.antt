-- `outcomes::top_status` meets its contract: the first entry is the oldest. Assumes nothing.
use mathlib.Core.Path.{sym}
use borrow.Author.Rules.{rules}
use Rattle.transmit_rules.proofs.StackEntries.{top-none, top-some}
use Rattle.transmit.proofs.outcomes.top_status.Goals as goal

pub returns-then-o-eq0 : goal.returns-then-o-eq0
returns-then-o-eq0 c = let s = c.args.o.statuses in sym (top-none s.entries s.count c.if-o-eq0.true)

pub returns : goal.returns
returns c = let s = c.args.o.statuses in sym (top-some s.entries s.count (search rules) c.if-o-eq0.false)
