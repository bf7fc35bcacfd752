-- `window_read::read_in` meets its contract: in each arm the window is the arm's. Assumes nothing.
use borrow.Author.Tests.{ne_eqb}
use Rattle.card_rules.specs.View.{view}
use Rattle.card_rules.specs.Read.{word_at}
use Rattle.window_read.proofs.read_in.Goals as goal

pub returns-in-0 : goal.returns-in-0
unfolding word_at view
returns-in-0 c = rw (c.read_0.ensures, ← c.s.view_is, ne_eqb _ _ c.requires.2, c.in-0.is)

pub read_1-requires : goal.read_1-requires
unfolding view
read_1-requires c = c.requires.1 (rw (← c.s.view_is, c.in-1.is))

pub returns-in-1 : goal.returns-in-1
unfolding word_at view
returns-in-1 c = rw (c.read_1.ensures, ← c.s.view_is, ne_eqb _ _ c.requires.2, c.in-1.is)

pub returns-in-2 : goal.returns-in-2
unfolding word_at view
returns-in-2 c = rw (c.read_2.ensures, ← c.s.view_is, ne_eqb _ _ c.requires.2, c.in-2.is)

pub returns-in-3 : goal.returns-in-3
unfolding word_at view
returns-in-3 c = rw (c.read_3.ensures, ← c.s.view_is, ne_eqb _ _ c.requires.2, c.in-3.is)

pub returns-in-5 : goal.returns-in-5
unfolding word_at view
returns-in-5 c = rw (c.read_5.ensures, ← c.s.view_is, ne_eqb _ _ c.requires.2, c.in-5.is)

pub returns-in_default : goal.returns-in_default
unfolding word_at view
returns-in_default c =
    rw (← c.s.view_is, ne_eqb _ _ c.requires.2, ne_eqb _ _ c.in_default.in_default-own.rest.0.0.0.0.1, ne_eqb _ _ c.in_default.in_default-own.rest.0.0.0.1, ne_eqb _ _ c.in_default.in_default-own.rest.0.0.1, ne_eqb _ _ c.in_default.in_default-own.rest.0.1, ne_eqb _ _ c.in_default.in_default-own.rest.1)
