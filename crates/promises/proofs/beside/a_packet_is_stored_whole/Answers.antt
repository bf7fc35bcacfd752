-- `beside::a_packet_is_stored_whole` meets its contract, by the law `stored-whole`. Assumes nothing.
use Rattle.sends_carried.proofs.Stored.{stored-whole}
use Rattle.promises.proofs.beside.a_packet_is_stored_whole.Goals as goal

pub returns : goal.returns
returns c = stored-whole
