-- `store::set_head` meets its contract, by the law `flagged`. Assumes nothing.
use Rattle.store.proofs.Lift.{flagged}
use Rattle.store.proofs.set_head.Goals as goal

pub returns : goal.returns
returns c =
    let s = c.args in
    flagged s.a s.count s.head s.ram.now s.dir.now c.requires.0 c.requires.1
