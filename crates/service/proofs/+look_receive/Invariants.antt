-- The accesses left fall at each call of `look` and `receive`. Assumes nothing.
use Rattle.service.proofs.+look_receive.Given as goal

abbrev pub decreases-look : goal.decreases-look
decreases-look l = l.left

abbrev pub decreases-receive : goal.decreases-receive
decreases-receive l = l.left
