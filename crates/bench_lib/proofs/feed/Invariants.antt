-- `bench_lib::feed` is safe and ends: what is left of the piece gets shorter. Assumes nothing.
use Rattle.std.proofs.Common.{length}
use Rattle.bench_lib.proofs.feed.Given as goal

abbrev pub decreases-loop-end : goal.decreases-loop-end
decreases-loop-end l = length l.rest
