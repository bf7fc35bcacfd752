-- `sound::settle_early` meets its contract: its two flags are those of the definition, by what the oldest frame's word says. Assumes nothing.
use Rattle.receive_rules.specs.Early.{early_flag, told_flag}
use Rattle.receive_rules.proofs.Oldest.{none, early_some, told-some}
use Rattle.receive_rules.proofs.Steps.{step_same}
use Rattle.receive.proofs.sound.settle_early.Goals as goal

pub returns-then-r-eq0 : goal.returns-then-r-eq0
unfolding early_flag told_flag
returns-then-r-eq0 c =
    let s = c.args in
    step_same s.size _ s.ram.now s.dir.now _ c.requires (rw (none s.size s.r.frames s.ram.now s.dir.now c.if-r-eq0.true))

pub returns : goal.returns
returns c =
    let s = c.args in
    step_same s.size _ s.ram.now s.dir.now _ c.requires
    (rw (early_some s.size s.r.frames s.ram.now s.dir.now c.requires c.if-r-eq0.false s.r.receiver, told-some s.size s.r.frames s.ram.now s.dir.now c.requires c.if-r-eq0.false s.r.receiver))
