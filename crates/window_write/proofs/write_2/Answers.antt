-- `window_write::write_2` meets its contract: the pair of bytes at the offset is the word that is mixed. Assumes nothing.
use mathlib.Core.Path.{refl}
use borrow.Author.Tests.{lt-ltb, le-ltb}
use Rattle.card_rules.specs.View.{view}
use Rattle.card_rules.proofs.Groups.{is_same, is_config}
use Rattle.card_rules.specs.Write.{write2}
use Rattle.window_write.proofs.write_2.Goals as goal

pub returns-then-o-lt6 : goal.returns-then-o-lt6
unfolding write2 view
returns-then-o-lt6 c ram dir h =
    rw (lt-ltb _ _ c.if-o-lt6.true, c.mixed-w.ensures, c.pair.ensures)
    (is_config c.args.c ram dir h _ refl)

pub returns : goal.returns
unfolding write2
returns c ram dir h = rw (le-ltb _ _ c.if-o-lt6.false) (is_same _ ram dir h)
