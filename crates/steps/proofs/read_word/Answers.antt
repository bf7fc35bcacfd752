-- `steps::read_word` meets its contract: the data port takes a word, any other read changes nothing. Assumes nothing.
use Rattle.std.proofs.Common.{rules}
use Rattle.card_rules.specs.View.{view}
use Rattle.card_rules.specs.Access.{ReadWord}
use Rattle.card_rules.proofs.StepKeeps.{taken-keeps}
use Rattle.card_rules.proofs.StepEnds.{unsettled, settled_as, gives-ones, gives-word, gives_data}
use Rattle.steps.proofs.read_word.Goals as goal

pub returns-then-not-c : goal.returns-then-not-c
returns-then-not-c c = gives-ones c.args.c _ _ c.requires.0 (ReadWord c.args.o) c.if-not-c.true

pub settle-requires : goal.settle-requires
settle-requires c =
    unsettled _ _ _ _ c.take_word-got.ensures.is (taken-keeps (view c.args.c c.args.ram.now c.args.dir.now) c.requires.0.calm)

pub returns-then-o-c : goal.returns-then-o-c
returns-then-o-c c =
    gives_data c.args.c c.args.ram.now c.args.dir.now c.requires.0 c.args.o _ _ c.if-not-c.false c.if-o-c.true c.take_word-got.ensures.value_value
    (settled_as _ _ _ _ _ c.take_word-got.ensures.is c.settle.ensures)

pub word_at-requires : goal.word_at-requires
unfolding view
word_at-requires c = search rules

pub returns : goal.returns
returns c =
    gives-word c.args.c _ _ c.requires.0 c.args.o _ c.if-not-c.false c.if-o-c.false c.word_at.ensures
