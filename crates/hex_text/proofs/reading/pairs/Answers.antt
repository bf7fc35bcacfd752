-- `reading::pairs` meets its contract: the bytes so far stand in front, and every digit passed is one. Assumes nothing.
use Rattle.std.proofs.Common.{arith}
use Rattle.bench_rules.proofs.Spelling.{over, under, reads_none, reads_more, first_wrong, second_wrong, odd, crowded, wrong, whole}
use Rattle.hex_text.proofs.reading.pairs.Goals as goal
use Rattle.hex_text.proofs.reading.pairs.Goals.{then-word-ne0-via-then-word-ne0, then-word-ne0-via-else-word-ne0+then-n-out}

pub returns-then-word-ne0 : goal.returns-then-word-ne0
returns-then-word-ne0 c =
    elim c.then-word-ne0.branch [
      | then-word-ne0-via-then-word-ne0 w ↦ odd c.args.word.now _ w.if-word-ne0.true
      | then-word-ne0-via-else-word-ne0+then-n-out w ↦ crowded c.args.word.now _ w.if-word-ne0.false w.if-n-out.true
    ]

pub loop-i-init : goal.loop-i-init
loop-i-init c = reads_none c.args.word.now c.args.out.now

pub returns-in_err-value : goal.returns-in_err-value
returns-in_err-value c =
    let f = first_wrong c.args.word.now c.loop-i.i c.loop-i.out c.loop-i.invariant (omega arith) (over 16 _ c.in_err-value.ensures.is) in
    rw c.from_residual.ensures (wrong c.args.word.now c.args.out.now c.loop-i.out c.loop-i.auto.out f)

pub returns-in_err-out : goal.returns-in_err-out
returns-in_err-out c =
    let u = under 16 _ _ c.in_ok-value.ensures.is in
    let f = second_wrong c.args.word.now c.loop-i.i c.loop-i.out c.loop-i.invariant (omega arith) (omega arith) (over 16 _ c.in_err-out.ensures.is) in
    rw c.from_residual-in_err-out.ensures (wrong c.args.word.now c.args.out.now c.loop-i.out c.loop-i.auto.out f)

pub loop-i-preserved : goal.loop-i-preserved
loop-i-preserved c =
    let u = under 16 _ _ c.in_ok-value.ensures.is in
    let v = under 16 _ _ c.in_ok-out.ensures.is in
    reads_more c.args.word.now c.loop-i.i c.loop-i.out _ c.loop-i.invariant (omega arith) (omega arith) (omega arith) (omega arith) (omega arith)

pub returns : goal.returns
returns c =
    whole c.args.word.now c.args.out.now c.loop-i.out c.loop-i.i c.if-word-ne0.false (omega arith) c.loop-i.auto.out (omega arith) c.loop-i.invariant
