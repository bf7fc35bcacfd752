-- `image_check::checksum` meets its contract: each running word, with the words that are left, is the whole, and folding
-- whole words is exclusive-or'ing their bytes. The measure is the number of words left. Assumes nothing.
use mathlib.Core.Bool.{Bool}
use mathlib.Core.List.{List, []}
use Prim.Native.Nat.{ℕ, ◌-◌}
use Rattle.image_rules.specs.Image.{span, is_among, except, configuration}
use Rattle.image_rules.proofs.Words.{whole_of, Two}
use Rattle.image_check.proofs.checksum.Given as goal

-- The low byte is of these words, the high one of the others.
abbrev pub own : ℕ → Bool
own w = is_among w configuration

abbrev pub Running : List ℕ → ℕ → ℕ → ℕ → Type 0
Running image = Two image own 0x0E [] (whole_of image configuration) (whole_of image (except (span 0x00 0x0E) configuration))

abbrev pub invariant-loop-w : goal.invariant-loop-w
invariant-loop-w l = Running l.image l.w l.low l.high

abbrev pub decreases-loop-w : goal.decreases-loop-w
decreases-loop-w l = 0x0F - l.w
