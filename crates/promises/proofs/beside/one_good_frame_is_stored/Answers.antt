-- `beside::one_good_frame_is_stored` meets its contract, by the law `one-stored`. Assumes nothing.
use Rattle.frames_carried.proofs.One.{one-stored}
use Rattle.promises.proofs.beside.one_good_frame_is_stored.Goals as goal

pub returns : goal.returns
returns c = one-stored
