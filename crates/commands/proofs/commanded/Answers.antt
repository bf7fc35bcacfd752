-- `commands::commanded` meets its contract: the test is that of window 0. Assumes nothing.
use Rattle.card_rules.specs.View.{view}
use Rattle.card_rules.proofs.Groups.{is_same}
use Rattle.card_rules.specs.Command.{commanded}
use Rattle.commands.proofs.commanded.Goals as goal

pub returns-then-n-c : goal.returns-then-n-c
unfolding commanded view
returns-then-n-c c = rw c.if-n-c.true (is_same _ _ _ c.requires.held)

pub returns : goal.returns
unfolding commanded view
returns c = rw c.if-n-c.false c.command.ensures
