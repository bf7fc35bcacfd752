-- `window_write::write` meets its contract: in each arm the window is the arm's, and the default's is none of theirs. Assumes nothing.
use borrow.Author.Tests.{ne_eqb}
use Rattle.card_rules.specs.View.{view}
use Rattle.card_rules.proofs.Groups.{is_same}
use Rattle.card_rules.specs.Write.{write}
use Rattle.card_rules.proofs.Windows.{selected}
use Rattle.window_write.proofs.write.Goals as goal

pub returns-in-0 : goal.returns-in-0
unfolding view
returns-in-0 c = selected _ _ _ _ _ _ _ 0 c.in-0.is (c.write_0.ensures _ _ c.requires.0.held)

pub returns-in-1 : goal.returns-in-1
unfolding view
returns-in-1 c = selected _ _ _ _ _ _ _ 1 c.in-1.is c.write_1.ensures

pub returns-in-2 : goal.returns-in-2
unfolding view
returns-in-2 c = selected _ _ _ _ _ _ _ 2 c.in-2.is (c.write_2.ensures _ _ c.requires.0.held)

pub returns-in-3 : goal.returns-in-3
unfolding view
returns-in-3 c = selected _ _ _ _ _ _ _ 3 c.in-3.is (c.write_3.ensures _ _ c.requires.0.held)

pub returns-in_default : goal.returns-in_default
unfolding write view
returns-in_default c =
    rw (
      ne_eqb _ _ c.in_default.in_default-own.rest.0.0.0.1,
      ne_eqb _ _ c.in_default.in_default-own.rest.0.0.1,
      ne_eqb _ _ c.in_default.in_default-own.rest.0.1,
      ne_eqb _ _ c.in_default.in_default-own.rest.1,
    )
    (is_same _ _ _ c.requires.0.held)
