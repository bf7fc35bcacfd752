-- `Text::put_bytes` meets its contract: the bytes passed stand behind what was there. Assumes nothing.
use Rattle.std.proofs.Common.{sym, refl, arith, length-append, append-nil, append_assoc}
use Rattle.bench_rules.specs.Text.{bytes_text}
use Rattle.bench_rules.proofs.Placed.{bytes_more}
use Rattle.hex_text.proofs.printing.Text.put_bytes.Goals as goal

pub loop-b-init : goal.loop-b-init
unfolding bytes_text
loop-b-init c = (sym (append-nil c.args.self.now), omega arith)

pub loop-b-preserved : goal.loop-b-preserved
loop-b-preserved c =
    (rw (c.put_byte.ensures, c.loop-b.invariant.0, bytes_more c.args.s.now c.loop-b.b-index c.loop-b-test.true, append_assoc) refl, rw (c.put_byte.ensures, length-append) (omega arith))
