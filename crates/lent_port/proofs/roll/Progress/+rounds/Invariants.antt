-- The number of free tags falls with each round.
-- Assumes nothing.
use Rattle.lent_port.proofs.roll.Progress.+rounds.Given as goal

abbrev pub decreases-rounds : goal.decreases-rounds
decreases-rounds l = l.free
