-- `forms::found` meets its contract: the addresses passed stand behind what was there. Assumes nothing.
use Rattle.std.proofs.Common.{◌≡◌, ◌++◌, ◌+◌, ◌*◌, length, take}
use Rattle.bench_rules.specs.Answers.{addresses_text}
use Rattle.answers.proofs.forms.found.Given as goal

abbrev pub invariant-loop-i : goal.invariant-loop-i
invariant-loop-i l =
    (l.text ≡ l.initial.text ++ addresses_text (take l.i l.found)) × (length l.text ≡ length l.initial.text + 13 * l.i)
