-- `commands::command` meets its contract: the test picks RX Discard. Assumes nothing.
use borrow.Author.Tests.{eq-eqb, ne_eqb}
use Rattle.card_rules.specs.Command.{command}
use Rattle.commands.proofs.command.Goals as goal

pub returns-then-n-eq-RX_DISCARD : goal.returns-then-n-eq-RX_DISCARD
unfolding command
returns-then-n-eq-RX_DISCARD c = rw (eq-eqb _ _ c.if-n-eq-RX_DISCARD.true) c.discard.ensures

pub returns : goal.returns
unfolding command
returns c = rw (ne_eqb _ _ c.if-n-eq-RX_DISCARD.false) (c.act.ensures _ _ c.requires.held)
