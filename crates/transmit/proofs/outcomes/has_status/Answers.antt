-- `outcomes::has_status` meets its contract: a status stands where the count is not 0. Assumes nothing.
use mathlib.Core.Path.{sym}
use borrow.Author.Rules.{rules}
use Rattle.transmit_rules.proofs.StackEntries.{some_of}
use Rattle.transmit.proofs.outcomes.has_status.Goals as goal

pub returns : goal.returns
returns c = let s = c.args.o.statuses in sym (some_of s.entries s.count (search rules))
