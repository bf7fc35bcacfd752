-- `beside::one_good_frame_is_handed_up` meets its contract, by the law `one_handed_up`. Assumes nothing.
use Rattle.frames_carried.proofs.One.{one_handed_up}
use Rattle.promises.proofs.beside.one_good_frame_is_handed_up.Goals as goal

pub returns : goal.returns
returns c = one_handed_up
