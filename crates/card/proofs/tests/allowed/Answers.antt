-- `tests::allowed` answers in the order of the refusals. Assumes nothing.
use mathlib.Core.Path.{refl}
use Rattle.card_rules.specs.Calls.{tested}
use Rattle.card.proofs.tests.allowed.Goals as goal

pub returns-then-not-sound : goal.returns-then-not-sound
unfolding tested
returns-then-not-sound c = rw c.if-not-sound.true refl

pub returns-then-not-ok : goal.returns-then-not-ok
unfolding tested
returns-then-not-ok c = rw (c.if-not-sound.false, c.if-not-ok.true) refl

pub returns : goal.returns
unfolding tested
returns c = rw (c.if-not-sound.false, c.if-not-ok.false) refl
