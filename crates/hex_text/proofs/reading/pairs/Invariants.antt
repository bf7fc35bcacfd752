-- `reading::pairs` meets its contract: the bytes so far stand in front, and every digit passed is one. Assumes nothing.
use Rattle.bench_rules.proofs.Spelling.{Reads}
use Rattle.hex_text.proofs.reading.pairs.Given as goal

abbrev pub invariant-loop-i : goal.invariant-loop-i
invariant-loop-i l = Reads l.word l.i l.out
