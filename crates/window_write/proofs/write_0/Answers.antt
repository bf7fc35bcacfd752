-- `window_write::write_0` meets its contract: in each arm the offset is the arm's, and the default's is none of theirs. Assumes nothing.
use mathlib.Core.Path.{refl}
use borrow.Author.Tests.{ne_eqb}
use Rattle.card_rules.specs.View.{view}
use Rattle.card_rules.proofs.Groups.{is_same, is_id, is_config}
use Rattle.card_rules.specs.Write.{write0}
use Rattle.window_write.proofs.write_0.Goals as goal

pub returns-in-4 : goal.returns-in-4
unfolding write0
returns-in-4 c ram dir h = rw c.in-4.is (c.control.ensures ram dir h)

pub returns-in-6 : goal.returns-in-6
unfolding write0 view
returns-in-6 c ram dir h = rw (c.in-6.is, c.set_address.ensures, c.mixed.ensures) (is_id _ ram dir h _)

pub returns-in-8 : goal.returns-in-8
unfolding write0 view
returns-in-8 c ram dir h = rw (c.in-8.is, c.set_resource.ensures, c.mixed-in-8.ensures) (is_config _ ram dir h _ refl)

pub returns-in-10 : goal.returns-in-10
unfolding write0
returns-in-10 c ram dir h = rw c.in-10.is (c.eeprom.ensures ram dir h)

pub returns-in-12 : goal.returns-in-12
unfolding write0 view
returns-in-12 c ram dir h = rw (c.in-12.is, c.set_shift.ensures, c.mixed-in-12.ensures) (is_id _ ram dir h _)

pub returns-in_default : goal.returns-in_default
unfolding write0
returns-in_default c ram dir h =
    rw (
      ne_eqb _ _ c.in_default.in_default-own.rest.0.0.0.0.1,
      ne_eqb _ _ c.in_default.in_default-own.rest.0.0.0.1,
      ne_eqb _ _ c.in_default.in_default-own.rest.0.0.1,
      ne_eqb _ _ c.in_default.in_default-own.rest.0.1,
      ne_eqb _ _ c.in_default.in_default-own.rest.1,
    )
    (is_same _ ram dir h)
