-- `window_read::read_0` meets its contract: in each arm the offset is the arm's. Assumes nothing.
use borrow.Author.Tests.{ne_eqb}
use Rattle.card_rules.specs.View.{view}
use Rattle.card_rules.specs.Read.{window0}
use Rattle.window_read.proofs.read_0.Goals as goal

pub returns-in-0 : goal.returns-in-0
unfolding window0 view
returns-in-0 c = rw c.in-0.is

pub returns-in-2 : goal.returns-in-2
unfolding window0 view
returns-in-2 c = rw (← c.s.view_is, c.in-2.is)

pub returns-in-4 : goal.returns-in-4
unfolding window0 view
returns-in-4 c = rw (← c.s.view_is, c.weight_if.ensures.0, c.in-4.is)

pub returns-in-6 : goal.returns-in-6
unfolding window0 view
returns-in-6 c = rw (← c.s.view_is, c.in-6.is)

pub returns-in-8 : goal.returns-in-8
unfolding window0 view
returns-in-8 c = rw (← c.s.view_is, c.in-8.is)

pub returns-in-10 : goal.returns-in-10
unfolding window0 view
returns-in-10 c = rw (← c.s.view_is, c.pair.ensures, c.in-10.is)

pub returns-in-12 : goal.returns-in-12
unfolding window0 view
returns-in-12 c = rw (← c.s.view_is, c.in-12.is)

pub returns-in_default : goal.returns-in_default
unfolding window0 view
returns-in_default c =
    rw (ne_eqb _ _ c.in_default.in_default-own.rest.0.0.0.0.0.0.1, ne_eqb _ _ c.in_default.in_default-own.rest.0.0.0.0.0.1, ne_eqb _ _ c.in_default.in_default-own.rest.0.0.0.0.1, ne_eqb _ _ c.in_default.in_default-own.rest.0.0.0.1, ne_eqb _ _ c.in_default.in_default-own.rest.0.0.1, ne_eqb _ _ c.in_default.in_default-own.rest.0.1, ne_eqb _ _ c.in_default.in_default-own.rest.1)
