-- `window_read::read_2` meets its contract: an even offset below 6 is at most 4. Assumes nothing.
use borrow.Author.Tests.{lt-ltb, le-ltb}
use Rattle.card_rules.specs.View.{view}
use Rattle.card_rules.specs.Read.{window2}
use Rattle.window_read.proofs.read_2.Goals as goal

pub returns-then-o-lt6 : goal.returns-then-o-lt6
unfolding window2 view
returns-then-o-lt6 c = rw (← c.s.view_is, c.pair.ensures, lt-ltb _ _ c.if-o-lt6.true)

pub returns : goal.returns
unfolding window2 view
returns c = rw (le-ltb _ _ c.if-o-lt6.false)
