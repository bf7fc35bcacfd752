-- `Text::put_places` meets its contract: a digit is put behind those of the tenth. Assumes nothing.
use Rattle.std.proofs.Common.{arith, refl, sym, append-nil, append_assoc}
use Rattle.bench_rules.proofs.Placed.{places-none, places-last, places_more}
use Rattle.hex_text.proofs.printing.Text.+put_places.Goals as goal

pub returns-then-k-eq0-clause-text : goal.returns-then-k-eq0-clause-text
returns-then-k-eq0-clause-text t c = rw (← places-none c.args.k c.args.n c.if-k-eq0.true) (sym (append-nil c.args.self.now))

pub returns-then-n-lt10-clause-text : goal.returns-then-n-lt10-clause-text
returns-then-n-lt10-clause-text t c =
    rw (c.put.ensures, c.digit.ensures, ← places-last c.args.k c.args.n (omega arith) (omega arith)) refl

pub returns-clause-text : goal.returns-clause-text
returns-clause-text t c =
    rw (c.put-2.ensures, c.put_places.ensures.text, c.digit-2.ensures, ← places_more c.args.k c.args.n (omega arith) (omega arith), append_assoc) refl
