-- `effects::write_word` meets its contract: the command register is at 0Eh. Assumes nothing.
use borrow.Author.Tests.{eq-eqb, ne_eqb}
use Rattle.card_rules.specs.Write.{write_word}
use Rattle.steps.proofs.effects.write_word.Goals as goal

pub returns-then-o-eq14 : goal.returns-then-o-eq14
unfolding write_word
returns-then-o-eq14 c = rw (eq-eqb _ _ c.if-o-eq14.true) c.commanded.ensures

pub returns : goal.returns
unfolding write_word
returns c = rw (ne_eqb _ _ c.if-o-eq14.false) c.write.ensures
