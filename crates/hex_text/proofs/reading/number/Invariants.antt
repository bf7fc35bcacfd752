-- `reading::number` meets its contract: what is read so far and what is still to come make the number. Assumes nothing.
use Rattle.std.proofs.Common.{◌≡◌, ◌<◌, drop}
use Rattle.bench_rules.specs.Text.{none, read_on}
use Rattle.hex_text.proofs.reading.number.Given as goal

abbrev pub invariant-loop-b : goal.invariant-loop-b
invariant-loop-b l = (l.n < none) × (read_on l.base l.n (drop l.b-index l.word) ≡ read_on l.base 0 l.word)
