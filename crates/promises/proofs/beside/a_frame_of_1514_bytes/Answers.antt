-- `beside::a_frame_of_1514_bytes` meets its contract, by computing. Assumes nothing.
use Rattle.driver_examples.proofs.Long.{frame_of_1514}
use Rattle.promises.proofs.beside.a_frame_of_1514_bytes.Goals as goal

pub returns : goal.returns
returns c = frame_of_1514
