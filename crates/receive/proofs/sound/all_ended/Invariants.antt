-- `sound::all_ended` meets its contract: after i turns the answer is that of the first i words. Assumes nothing.
use mathlib.Core.Path.{◌≡◌}
use lib.ListN.{take}
use Rattle.receive_rules.specs.View.{all_ended}
use Rattle.receive.proofs.sound.all_ended.Given as goal

abbrev pub invariant-loop-w : goal.invariant-loop-w
invariant-loop-w l = l.good ≡ all_ended (take l.w-index l.w-items)
