-- `commands::act` meets its contract: in each arm the number is the arm's, and the default's is none of theirs. Assumes nothing.
use borrow.Author.Tests.{ne_eqb}
use Rattle.card_rules.specs.View.{view}
use Rattle.card_rules.proofs.Groups.{is_same, is_select, is_lines, is_receiver, is_outcomes}
use Rattle.card_rules.specs.Command.{act}
use Rattle.commands.proofs.act.Goals as goal

pub returns-in-0 : goal.returns-in-0
unfolding act view
returns-in-0 c ram dir h = rw c.in-0.is (c.reset.ensures ram dir h)

pub returns-in-1 : goal.returns-in-1
unfolding act view
returns-in-1 c ram dir h = rw (c.in-1.is, c.select_window.ensures) (is_select _ ram dir h _)

pub returns-in-3 : goal.returns-in-3
unfolding act view
returns-in-3 c ram dir h = rw (c.in-3.is, c.receive_on.ensures) (is_receiver _ ram dir h _)

pub returns-in-4 : goal.returns-in-4
unfolding act view
returns-in-4 c ram dir h = rw (c.in-4.is, c.receive_on-in-4.ensures) (is_receiver _ ram dir h _)

pub returns-in-5 : goal.returns-in-5
unfolding act view
returns-in-5 c ram dir h = rw c.in-5.is (c.rx_reset.ensures ram dir h)

pub returns-in-9 : goal.returns-in-9
unfolding act view
returns-in-9 c ram dir h = rw (c.in-9.is, c.with_outcomes.ensures) (is_outcomes _ ram dir h _ _ c.enable.ensures)

pub returns-in-10 : goal.returns-in-10
unfolding act view
returns-in-10 c ram dir h = rw (c.in-10.is, c.with_outcomes-in-10.ensures) (is_outcomes _ ram dir h _ _ c.disable.ensures)

pub returns-in-11 : goal.returns-in-11
unfolding act view
returns-in-11 c ram dir h = rw c.in-11.is (c.tx_reset.ensures ram dir h)

pub returns-in-12 : goal.returns-in-12
unfolding act view
returns-in-12 c ram dir h = rw (c.in-12.is, c.request.ensures) (is_lines _ ram dir h _)

pub returns-in-13 : goal.returns-in-13
unfolding act view
returns-in-13 c ram dir h = rw c.in-13.is (c.acknowledge.ensures ram dir h)

pub returns-in-14 : goal.returns-in-14
unfolding act view
returns-in-14 c ram dir h = rw (c.in-14.is, c.set_mask.ensures) (is_select _ ram dir h _)

pub returns-in-15 : goal.returns-in-15
unfolding act view
returns-in-15 c ram dir h = rw (c.in-15.is, c.set_zero.ensures) (is_select _ ram dir h _)

pub returns-in-16 : goal.returns-in-16
unfolding act view
returns-in-16 c ram dir h = rw (c.in-16.is, c.set_filter.ensures) (is_select _ ram dir h _)

pub returns-in-17 : goal.returns-in-17
unfolding act view
returns-in-17 c ram dir h = rw (c.in-17.is, c.set_early.ensures) (is_receiver _ ram dir h _)

pub returns-in-18 : goal.returns-in-18
unfolding act view
returns-in-18 c ram dir h = rw (c.in-18.is, c.with_outcomes-in-18.ensures) (is_outcomes _ ram dir h _ _ c.set_level.ensures)

pub returns-in-19 : goal.returns-in-19
unfolding act view
returns-in-19 c ram dir h = rw (c.in-19.is, c.with_outcomes-in-19.ensures) (is_outcomes _ ram dir h _ _ c.set_start.ensures)

pub returns-in_default : goal.returns-in_default
unfolding act view
returns-in_default c ram dir h = rw (
  ne_eqb _ _ c.in_default.in_default-own.rest.0.0.0.0.0.0.0.0.0.0.0.0.0.0.0.1,
  ne_eqb _ _ c.in_default.in_default-own.rest.0.0.0.0.0.0.0.0.0.0.0.0.0.0.1,
  ne_eqb _ _ c.in_default.in_default-own.rest.0.0.0.0.0.0.0.0.0.0.0.0.0.1,
  ne_eqb _ _ c.in_default.in_default-own.rest.0.0.0.0.0.0.0.0.0.0.0.0.1,
  ne_eqb _ _ c.in_default.in_default-own.rest.0.0.0.0.0.0.0.0.0.0.0.1,
  ne_eqb _ _ c.in_default.in_default-own.rest.0.0.0.0.0.0.0.0.0.0.1,
  ne_eqb _ _ c.in_default.in_default-own.rest.0.0.0.0.0.0.0.0.0.1,
  ne_eqb _ _ c.in_default.in_default-own.rest.0.0.0.0.0.0.0.0.1,
  ne_eqb _ _ c.in_default.in_default-own.rest.0.0.0.0.0.0.0.1,
  ne_eqb _ _ c.in_default.in_default-own.rest.0.0.0.0.0.0.1,
  ne_eqb _ _ c.in_default.in_default-own.rest.0.0.0.0.0.1,
  ne_eqb _ _ c.in_default.in_default-own.rest.0.0.0.0.1,
  ne_eqb _ _ c.in_default.in_default-own.rest.0.0.0.1,
  ne_eqb _ _ c.in_default.in_default-own.rest.0.0.1,
  ne_eqb _ _ c.in_default.in_default-own.rest.0.1,
  ne_eqb _ _ c.in_default.in_default-own.rest.1,
)
    (is_same _ ram dir h)
