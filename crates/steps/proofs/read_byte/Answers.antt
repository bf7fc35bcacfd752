-- `steps::read_byte` meets its contract: a byte of the word at the even offset. Assumes nothing.
use Rattle.std.proofs.Common.{rules}
use Rattle.card_rules.specs.Access.{ReadByte}
use Rattle.card_rules.specs.View.{view}
use Rattle.card_rules.proofs.StepEnds.{gives-ones, gives_low, gives_high}
use Rattle.steps.proofs.read_byte.Goals as goal

pub returns-then-not-c : goal.returns-then-not-c
returns-then-not-c c = gives-ones c.args.c _ _ c.requires.0 (ReadByte c.args.o) c.if-not-c.true

pub word_at-requires : goal.word_at-requires
unfolding view
word_at-requires c = search rules

pub word_at-requires-2 : goal.word_at-requires-2
unfolding view
word_at-requires-2 c = search rules

pub returns-then-o-eq0 : goal.returns-then-o-eq0
returns-then-o-eq0 c =
    gives_low c.args.c _ _ c.requires.0 c.args.o _ c.if-not-c.false c.if-o-eq0.true c.word_at.ensures

pub returns : goal.returns
returns c =
    gives_high c.args.c _ _ c.requires.0 c.args.o _ c.if-not-c.false c.if-o-eq0.false c.word_at-2.ensures
