-- `window_read::word_at` meets its contract: Status is at 0Eh. Assumes nothing.
use borrow.Author.Tests.{eq-eqb}
use Rattle.card_rules.specs.Read.{word_at}
use Rattle.window_read.proofs.word_at.Goals as goal

pub returns-then-o-eq14 : goal.returns-then-o-eq14
unfolding word_at
returns-then-o-eq14 c = rw (eq-eqb _ _ c.if-o-eq14.true) c.status_word.ensures
