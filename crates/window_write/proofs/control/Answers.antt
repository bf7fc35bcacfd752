-- `window_write::control` meets its contract: without the low byte nothing is done, and bit 2 of that byte picks the reset. Assumes nothing.
use mathlib.Core.Path.{refl}
use Rattle.card_rules.specs.View.{view}
use Rattle.card_rules.proofs.Groups.{is_config}
use Rattle.card_rules.specs.Write.{controlled}
use Rattle.window_write.proofs.control.Goals as goal

pub returns-then-has : goal.returns-then-has
unfolding controlled
returns-then-has c ram dir h =
    rw (← c.covers_low.ensures, c.if-not-covers_low.false, ← c.has.ensures, c.if-has.true) (c.reset.ensures ram dir h)

pub returns : goal.returns
unfolding controlled view
returns c ram dir h =
    rw (c.has-c.ensures, ← c.covers_low.ensures, c.if-not-covers_low.false, ← c.has.ensures, c.if-has.false)
    (is_config _ ram dir h _ refl)
