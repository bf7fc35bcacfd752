use Rattle.bench_rules.proofs.Lines.{next_law}
use Rattle.script.proofs.words.next.Goals as goal

pub returns : goal.returns
returns c = next_law c.args.s.now _ _ c.to_blank.ensures.reach c.to_letter.ensures.reach
