-- `file::cards` is safe and ends: each card takes a byte or more, so that the count stays below the place.
use Rattle.std.proofs.Common.{length, ◌-◌, ◌≤◌}
use Rattle.catalogue_why.proofs.file.cards.Given as goal

abbrev pub invariant-loop-at : goal.invariant-loop-at
invariant-loop-at l = (l.at ≤ length l.file) × (l.n ≤ l.at)

abbrev pub decreases-loop-at : goal.decreases-loop-at
decreases-loop-at l = length l.file - l.at
