-- `operands::byte_string` meets its contract: what is counted and spelled is a byte string of the length wanted. Assumes nothing.
use Rattle.std.proofs.Common.{refl, length}
use Rattle.bench_rules.proofs.Lines.{miscounted, misspelt, spelt}
use Rattle.script.proofs.operands.byte_string.Goals as goal

pub returns-then-count-ne1 : goal.returns-then-count-ne1
returns-then-count-ne1 c =
    miscounted c.args.kind c.args.exact c.args.count c.args.one.now c.args.bytes.now refl c.if-count-ne1.true

pub returns-in_err-pairs : goal.returns-in_err-pairs
returns-in_err-pairs c =
    rw c.from_residual.ensures (misspelt c.args.kind c.args.exact c.args.count (length c.args.bytes.now) c.args.one.now _ refl c.if-count-ne1.false (rw c.in_err-pairs.was at c.pairs.ensures))

pub returns : goal.returns
returns c =
    spelt c.args.kind c.args.exact c.args.count (length c.args.bytes.now) _ c.args.one.now _ c.counted.ensures c.if-count-ne1.false (rw c.in_ok-pairs.was at c.pairs.ensures)
