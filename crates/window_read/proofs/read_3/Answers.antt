-- `window_read::read_3` meets its contract: in each arm the offset is the arm's. Assumes nothing.
use borrow.Author.Tests.{ne_eqb}
use Rattle.card_rules.specs.View.{view}
use Rattle.card_rules.specs.Read.{window3}
use Rattle.window_read.proofs.read_3.Goals as goal

pub returns-in-0 : goal.returns-in-0
unfolding window3 view
returns-in-0 c = rw (← c.s.view_is, c.byte_wide.ensures, c.in-0.is)

pub returns-in-2 : goal.returns-in-2
unfolding window3 view
returns-in-2 c = rw (← c.s.view_is, c.in-2.is)

pub returns-in-10 : goal.returns-in-10
unfolding window3 view
returns-in-10 c = rw (c.rx_free.ensures, c.in-10.is)

pub returns-in-12 : goal.returns-in-12
unfolding window3 view
returns-in-12 c = rw (c.tx_free.ensures, c.in-12.is)

pub returns-in_default : goal.returns-in_default
unfolding window3 view
returns-in_default c = rw (ne_eqb _ _ c.in_default.in_default-own.rest.0.0.0.1, ne_eqb _ _ c.in_default.in_default-own.rest.0.0.1, ne_eqb _ _ c.in_default.in_default-own.rest.0.1, ne_eqb _ _ c.in_default.in_default-own.rest.1)
