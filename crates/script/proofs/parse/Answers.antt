-- `script::parse` meets its contract: the words of the line, its first word's kind, and its operands. Assumes nothing.
use Rattle.std.proofs.Common.{length, arith}
use Rattle.bench_rules.proofs.Lines.{nothing_said, said}
use Rattle.script.proofs.parse.Goals as goal

pub returns-then-is_empty : goal.returns-then-is_empty
returns-then-is_empty c =
    nothing_said c.args.line.now _ c.args.bytes.now c.begun-first.ensures (grind (arith, c.if-is_empty.ensures)) c.bare.ensures

pub returns : goal.returns
returns c =
    rw (c.unwrap_or.ensures, c.bare-2.ensures) (said c.args.line.now _ _ _ _ _ _ _ _ _ _ _ _ (length c.args.bytes.now) _ c.begun-first.ensures (λ z. grind (arith, z, c.if-is_empty.ensures)) c.next-one.ensures c.next-two.ensures c.next-three.ensures c.next-more.ensures c.word.ensures c.key.ensures c.kind-kind.ensures c.count-count.ensures c.word-2.ensures c.word-3.ensures c.word-4.ensures c.line.ensures)
