-- `window_write::write_1` meets its contract: the tests on the offset and on the high byte pick the data port or the pop. Assumes nothing.
use borrow.Author.Tests.{lt-ltb, le-ltb}
use Rattle.card_rules.proofs.Groups.{is_same}
use Rattle.card_rules.specs.Write.{write1}
use Rattle.card_rules.proofs.Tests.{one_test}
use Rattle.window_write.proofs.write_1.Goals as goal

pub returns-then-o-lt4 : goal.returns-then-o-lt4
unfolding write1
returns-then-o-lt4 c = rw (lt-ltb _ _ c.if-o-lt4.true) c.write_data.ensures

pub returns-then-o-covers_high : goal.returns-then-o-covers_high
unfolding write1
returns-then-o-covers_high c =
    rw (le-ltb _ _ c.if-o-lt4.false, ← c.covers_high.ensures, one_test, c.if-o-covers_high.true)
    (c.pop_status.ensures _ _ c.requires.held)

pub returns : goal.returns
unfolding write1
returns c =
    rw (le-ltb _ _ c.if-o-lt4.false, ← c.covers_high.ensures, one_test, c.if-o-covers_high.false)
    (is_same _ _ _ c.requires.held)
