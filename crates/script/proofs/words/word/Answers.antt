-- `words::word` meets its contract: the part up to the first blank. Assumes nothing.
use Rattle.bench_rules.specs.Script.{word_of}
use Rattle.script.proofs.words.word.Goals as goal

pub returns : goal.returns
unfolding word_of
returns c = rw c.to_blank.ensures.reach
