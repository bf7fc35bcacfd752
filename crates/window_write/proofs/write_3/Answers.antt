-- `window_write::write_3` meets its contract: in each arm the offset is the arm's, and the default's is none of theirs. Assumes nothing.
use mathlib.Core.Path.{refl}
use borrow.Author.Tests.{ne_eqb}
use Rattle.card_rules.specs.View.{view}
use Rattle.card_rules.proofs.Groups.{is_same, is_config}
use Rattle.card_rules.specs.Write.{write3}
use Rattle.window_write.proofs.write_3.Goals as goal

pub returns-in-0 : goal.returns-in-0
unfolding write3 view
returns-in-0 c ram dir h = rw (c.in-0.is, c.set_first.ensures, c.mixed.ensures) (is_config _ ram dir h _ refl)

pub returns-in-2 : goal.returns-in-2
unfolding write3 view
returns-in-2 c ram dir h = rw (c.in-2.is, ← c.mixed-in-2.ensures) (c.resplit.ensures ram dir h)

pub returns-in_default : goal.returns-in_default
unfolding write3
returns-in_default c ram dir h = rw (ne_eqb _ _ c.in_default.in_default-own.rest.0.1, ne_eqb _ _ c.in_default.in_default-own.rest.1) (is_same _ ram dir h)
