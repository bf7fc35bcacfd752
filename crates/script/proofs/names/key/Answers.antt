-- `names::key` meets its contract: the number so far and the characters to come make the word's number. Assumes nothing.
use Rattle.std.proofs.Common.{sym, ◌∙◌, arith}
use lib.ListN.{get_or-eq_default}
use borrow.Author.Tests.{eq-eqb, ne_eqb}
use Rattle.bench_rules.specs.Script.{key_of}
use Rattle.bench_rules.proofs.Lines.{key_more, key_long, key_end}
use Rattle.script.proofs.names.key.Goals as goal
use Rattle.script.proofs.names.key.Goals.{then-is_empty-via-then-is_empty, then-is_empty-via-else-is_empty+then-word-eq0}

pub returns-then-is_empty : goal.returns-then-is_empty
unfolding key_of
returns-then-is_empty c =
    elim c.then-is_empty.branch [
      | then-is_empty-via-then-is_empty w ↦ rw (get_or-eq_default c.args.word.now 0 {n = 0} (grind (arith, w.if-is_empty.ensures)))
      | then-is_empty-via-else-is_empty+then-word-eq0 w ↦ rw (eq-eqb _ _ w.if-word-eq0.true)
    ]

pub loop-b-preserved : goal.loop-b-preserved
loop-b-preserved c =
    rw c.from.ensures (sym (key_more c.loop-b.n c.args.word.now c.loop-b.b-index c.loop-b-test.true c.if-n-ge72057594037927936.false) ∙ c.loop-b.invariant)

pub returns-then-n-ge72057594037927936 : goal.returns-then-n-ge72057594037927936
unfolding key_of
returns-then-n-ge72057594037927936 c =
    rw (ne_eqb _ _ c.if-word-eq0.false) (sym (key_long c.loop-b.n c.args.word.now c.loop-b.b-index c.loop-b-test.true c.if-n-ge72057594037927936.true) ∙ c.loop-b.invariant)

pub returns : goal.returns
unfolding key_of
returns c =
    rw (ne_eqb _ _ c.if-word-eq0.false) (sym (key_end c.loop-b.n c.args.word.now c.loop-b.b-index c.loop-b-test.false) ∙ c.loop-b.invariant)
