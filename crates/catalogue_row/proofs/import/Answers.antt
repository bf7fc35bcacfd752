-- `catalogue_row::import` meets its contract: each test in its turn, and then the cards are put.
-- The invariant: the reasons that are left decide.
-- Assumes nothing.
use native.Mathlib.Omega.{arith}
use Rattle.catalogue_rules.proofs.Changes.{writing}
use mathlib.Core.Path.{◌∙◌}
use Rattle.catalogue_row.proofs.Each.{chunks_are, none_left, some_left}
use Rattle.catalogue_row.proofs.Ways.{short, ragged, crowded, listed_twice_lem, apartly, wrong, right, sound}
use Rattle.catalogue_row.proofs.import.Goals as goal

pub returns-then-out-n : goal.returns-then-out-n
returns-then-out-n c = short c.args.out.now c.args.archive.now (omega arith)

pub returns-then-out-n-lt5 : goal.returns-then-out-n-lt5
returns-then-out-n-lt5 c = short c.args.out.now c.args.archive.now (omega arith)

pub returns-then-not-is_empty : goal.returns-then-not-is_empty
returns-then-not-is_empty c =
    ragged c.args.out.now c.args.archive.now (omega arith) (some_left c.is_empty.ensures c.as_chunks.ensures.back_len c.if-not-is_empty.true)

pub returns-then-n-gt64 : goal.returns-then-n-gt64
returns-then-n-gt64 c =
    crowded c.args.out.now c.args.archive.now (omega arith) (none_left c.is_empty.ensures c.as_chunks.ensures.back_len c.if-not-is_empty.false) (omega arith)

pub returns-then-any_twice : goal.returns-then-any_twice
returns-then-any_twice c =
    listed_twice_lem c.args.out.now c.args.archive.now (omega arith) (none_left c.is_empty.ensures c.as_chunks.ensures.back_len c.if-not-is_empty.false) (omega arith) (c.as_chunks.ensures.front ∙ chunks_are c.args.archive.now) c.any_twice.ensures c.if-any_twice.true

pub loop-why-init : goal.loop-why-init
loop-why-init c =
    apartly c.args.out.now c.args.archive.now (omega arith) (none_left c.is_empty.ensures c.as_chunks.ensures.back_len c.if-not-is_empty.false) (omega arith) (c.as_chunks.ensures.front ∙ chunks_are c.args.archive.now) c.any_twice.ensures c.if-any_twice.false

pub returns-then-any_for : goal.returns-then-any_for
returns-then-any_for c = wrong c.args.out.now c.args.archive.now _ c.as_chunks.result.0.now c.loop-why.invariant c.loop-why-test.true c.any_for.ensures c.if-any_for.true

pub loop-why-preserved : goal.loop-why-preserved
loop-why-preserved c = right c.args.out.now c.args.archive.now _ c.as_chunks.result.0.now c.loop-why.invariant c.loop-why-test.true c.any_for.ensures c.if-any_for.false

pub returns : goal.returns
returns c =
    writing _ _ (sound c.args.out.now c.args.archive.now _ c.as_chunks.result.0.now c.loop-why.invariant c.loop-why-test.false) _ _ _ c.cards.ensures.0 c.cards.ensures.1
