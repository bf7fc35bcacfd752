-- `forms::found` meets its contract: the addresses passed stand behind what was there. Assumes nothing.
use Rattle.std.proofs.Common.{refl, sym, arith, append-nil, append_assoc}
use Rattle.bench_rules.specs.Answers.{addresses_text}
use Rattle.bench_rules.proofs.Spoken.{addresses_more}
use Rattle.answers.proofs.forms.found.Goals as goal

pub loop-i-init : goal.loop-i-init
unfolding addresses_text
loop-i-init c = (sym (append-nil c.put_decimal-2.new.self), omega arith)

pub loop-i-preserved : goal.loop-i-preserved
loop-i-preserved c =
    (rw (c.put_address.ensures.text, c.loop-i.invariant.0, addresses_more c.args.found c.loop-i.i (omega arith), append_assoc) refl, omega arith)
