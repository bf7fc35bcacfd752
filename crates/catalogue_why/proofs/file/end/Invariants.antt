-- `file::end` is safe and ends: the place stays within the file, and the measure is what is left of it.
use Rattle.std.proofs.Common.{length, ◌-◌, ◌≤◌}
use Rattle.catalogue_why.proofs.file.end.Given as goal

abbrev pub invariant-loop-at : goal.invariant-loop-at
invariant-loop-at l = l.at ≤ length l.file

abbrev pub decreases-loop-at : goal.decreases-loop-at
decreases-loop-at l = length l.file - l.at
