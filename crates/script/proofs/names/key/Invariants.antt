-- `names::key` meets its contract: the number so far and the characters to come make the word's number. Assumes nothing.
use Rattle.std.proofs.Common.{◌≡◌, drop}
use Rattle.bench_rules.specs.Script.{key_on}
use Rattle.script.proofs.names.key.Given as goal

abbrev pub invariant-loop-b : goal.invariant-loop-b
invariant-loop-b l = key_on l.n (drop l.b-index l.word) ≡ key_on 0 l.word
