-- `effects::write_byte` meets its contract: the tests pick the byte's register. Assumes nothing.
use borrow.Author.Tests.{eq-eqb, ne_eqb}
use Rattle.card_rules.specs.View.{view}
use Rattle.card_rules.proofs.Groups.{is_lines}
use Rattle.card_rules.specs.Write.{write_byte}
use Rattle.card_rules.proofs.Written.{byte_as}
use Rattle.steps.proofs.effects.write_byte.Goals as goal

pub returns-then-o-eq14 : goal.returns-then-o-eq14
unfolding write_byte view
returns-then-o-eq14 c =
    rw (eq-eqb _ _ c.if-o-eq14.true, c.hold.ensures) (is_lines c.args.c _ _ c.requires.held _)

pub returns-then-o-eq15 : goal.returns-then-o-eq15
unfolding write_byte
returns-then-o-eq15 c =
    rw (ne_eqb _ _ c.if-o-eq14.false, eq-eqb _ _ c.if-o-eq15.true) c.execute.ensures

pub returns-then-o-eq0 : goal.returns-then-o-eq0
unfolding write_byte
returns-then-o-eq0 c =
    rw (ne_eqb _ _ c.if-o-eq14.false, ne_eqb _ _ c.if-o-eq15.false, eq-eqb _ _ c.if-o-eq0.true)
    (byte_as _ _ _ _ _ _ _ _ c.wide-w.ensures.0 c.write.ensures)

pub returns : goal.returns
unfolding write_byte
returns c =
    rw (ne_eqb _ _ c.if-o-eq14.false, ne_eqb _ _ c.if-o-eq15.false, ne_eqb _ _ c.if-o-eq0.false)
    (byte_as _ _ _ _ _ _ _ _ c.wide-w.ensures.0 c.write-2.ensures)
