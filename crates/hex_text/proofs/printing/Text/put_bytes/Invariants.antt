-- `Text::put_bytes` meets its contract: the bytes passed stand behind what was there. Assumes nothing.
use Rattle.std.proofs.Common.{◌≡◌, ◌++◌, ◌+◌, ◌*◌, length, take}
use Rattle.bench_rules.specs.Text.{bytes_text}
use Rattle.hex_text.proofs.printing.Text.put_bytes.Given as goal

abbrev pub invariant-loop-b : goal.invariant-loop-b
invariant-loop-b l = (l.self ≡ l.initial.self ++ bytes_text (take l.b-index l.s)) × (length l.self ≡ length l.initial.self + 2 * l.b-index)
