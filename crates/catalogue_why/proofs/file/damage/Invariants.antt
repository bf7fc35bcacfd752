-- `file::damage` is safe and ends: what lies between the two ends shrinks by half.
use Rattle.std.proofs.Common.{length, ◌-◌, ◌≤◌}
use Rattle.catalogue_why.proofs.file.damage.Given as goal

abbrev pub invariant-loop-low : goal.invariant-loop-low
invariant-loop-low l = (l.low ≤ l.high) × (l.high ≤ length l.file)

abbrev pub decreases-loop-low : goal.decreases-loop-low
decreases-loop-low l = l.high - l.low
