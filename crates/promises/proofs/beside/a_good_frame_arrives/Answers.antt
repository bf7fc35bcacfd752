-- `beside::a_good_frame_arrives` meets its contract, by the law `good-arrives`. Assumes nothing.
use Rattle.frames_carried.proofs.Arrive.{good-arrives}
use Rattle.promises.proofs.beside.a_good_frame_arrives.Goals as goal

pub returns : goal.returns
returns c = good-arrives
