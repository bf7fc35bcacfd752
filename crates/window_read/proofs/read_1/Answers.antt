-- `window_read::read_1` meets its contract: in each arm the offset is the arm's. Assumes nothing.
use borrow.Author.Tests.{ne_eqb, le-ltb}
use Rattle.card_rules.specs.Read.{window1}
use Rattle.window_read.proofs.read_1.Goals as goal

pub returns-in-8 : goal.returns-in-8
unfolding window1
returns-in-8 c = rw (c.rx_status.ensures, c.in-8.is)

pub returns-in-10 : goal.returns-in-10
unfolding window1
returns-in-10 c = rw (c.tx_status.ensures, c.in-10.is)

pub returns-in-12 : goal.returns-in-12
unfolding window1
returns-in-12 c = rw (c.tx_free.ensures, c.in-12.is)

pub returns-in_default : goal.returns-in_default
unfolding window1
returns-in_default c = rw (le-ltb _ _ c.requires, ne_eqb _ _ c.in_default.in_default-own.rest.0.0.1, ne_eqb _ _ c.in_default.in_default-own.rest.0.1, ne_eqb _ _ c.in_default.in_default-own.rest.1)
