-- `beside::stores_are_such` meets its contract, by the law `stores_are_such_lem`. Assumes nothing.
use Rattle.frames_carried.proofs.Memory.{stores_are_such_lem}
use Rattle.promises.proofs.beside.stores_are_such.Goals as goal

pub returns : goal.returns
returns c = stores_are_such_lem
