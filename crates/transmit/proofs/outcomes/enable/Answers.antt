-- `outcomes::enable` meets its contract: there are as many statuses as the count says. Assumes nothing.
use mathlib.Core.Path.{◌≡◌}
use borrow.Author.Rules.{rules}
use lib.ListN.{length}
use Rattle.transmit_rules.proofs.StackEntries.{stack-length}
use Rattle.transmit_rules.specs.Outcome as outcome
use Rattle.transmit.proofs.outcomes.enable.Goals as goal

pub returns : goal.returns
unfolding outcome.enable
returns c =
    let s = c.args.o.statuses in
    let len : length s.entries ≡ 31 = search rules in
    record { tells = rw (stack-length s len c.requires); stacked = c.requires }
