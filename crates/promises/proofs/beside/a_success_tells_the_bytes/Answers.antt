-- `beside::a_success_tells_the_bytes` meets its contract, by the law `tells`. Assumes nothing.
use Rattle.sends_carried.proofs.Carried.{tells}
use Rattle.promises.proofs.beside.a_success_tells_the_bytes.Goals as goal

pub returns : goal.returns
returns c = tells
