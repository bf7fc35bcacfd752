-- `image_check::secondary` meets its contract: each running word, with the words that are left, is the whole; the vital one
-- has the words of the second walk left behind those of the first. The measures are the numbers of words left. Assumes nothing.
use mathlib.Core.Bool.{Bool, true}
use mathlib.Core.List.{List, []}
use Prim.Native.Nat.{ℕ, ◌-◌}
use Rattle.image_rules.specs.Image.{span, is_among, vital, configurable}
use Rattle.image_rules.proofs.Words.{Left, whole_of, Two}
use Rattle.image_check.proofs.secondary.Given as goal

-- Of words 10h to 16h these are vital data, the others configurable data.
abbrev pub own : ℕ → Bool
own w = is_among w (span 0x10 0x12)

-- In the second walk every word is vital data.
abbrev pub every : ℕ → Bool
every w = true

abbrev pub Running : List ℕ → ℕ → ℕ → ℕ → Type 0
Running image = Two image own 0x16 (span 0x20 0x3F) (whole_of image vital) (whole_of image configurable)

abbrev pub invariant-loop-w : goal.invariant-loop-w
invariant-loop-w l = Running l.image l.w l.vital l.configurable

abbrev pub decreases-loop-w : goal.decreases-loop-w
decreases-loop-w l = 0x17 - l.w

abbrev pub invariant-loop-w-2 : goal.invariant-loop-w-2
invariant-loop-w-2 l = Left l.image every 0x3F [] (whole_of l.image vital) l.w l.vital

abbrev pub decreases-loop-w-2 : goal.decreases-loop-w-2
decreases-loop-w-2 l = 0x40 - l.w
