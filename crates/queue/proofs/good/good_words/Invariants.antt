-- `good::good_words` meets its contract: after i turns the answer is that of the first i words. Assumes nothing.
use mathlib.Core.Path.{◌≡◌}
use lib.ListN.{take}
use Rattle.transmit_rules.specs.QueueView.{good_words}
use Rattle.queue.proofs.good.good_words.Given as goal

abbrev pub invariant-loop-w : goal.invariant-loop-w
invariant-loop-w l = l.good ≡ good_words (take l.w-index l.w-items)
