-- `store::begin` meets its contract, by the law `begins`. Assumes nothing.
use Rattle.store.proofs.Lift.{begins}
use Rattle.store.proofs.begin.Goals as goal

pub returns : goal.returns
returns c =
    let s = c.args in
    begins s.a s.count s.head s.ram.now s.dir.now c.requires.0 c.requires.1
