use Rattle.bench_rules.proofs.Lines.{begun_law}
use Rattle.script.proofs.words.begun.Goals as goal

pub returns : goal.returns
returns c = begun_law c.args.s.now _ _ c.to_hash.ensures.reach c.to_letter.ensures.reach
