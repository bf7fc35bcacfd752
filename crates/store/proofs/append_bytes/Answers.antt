-- `store::append_bytes` meets its contract: after i turns i bytes are appended. Assumes nothing.
use Rattle.store.proofs.Lift.{sofar_none, sofar_more}
use Rattle.store.proofs.append_bytes.Goals as goal

pub loop-i-init : goal.loop-i-init
loop-i-init c =
    let s = c.args in
    sofar_none s.a s.count s.at s.bytes.now s.ram.now s.dir.now c.requires.sound c.requires.fact

pub loop-i-preserved : goal.loop-i-preserved
loop-i-preserved c =
    let s = c.args in
    let l = c.loop-i in
    sofar_more s.a s.count s.at l.i s.bytes.now s.ram.now s.dir.now l.ram l.dir _ _ l.invariant c.loop-i-test.true c.append_byte.ensures
