-- `sound::in_order` meets its contract: what it tests of the words is what is asked of the frames. Assumes nothing.
use mathlib.Core.Path.{ap, ◌∙◌}
use mathlib.Core.Bool.{Bool, ◌&&◌}
use lib.Dec.{leb}
use lib.ListN.{get_or}
use Prim.Native.Nat.{◌-◌, ◌%◌}
use Rattle.receive_rules.specs.Sound.{in_order, sized}
use Rattle.receive_rules.proofs.Order.{order-idle, order_busy}
use Rattle.receive_rules.proofs.Oldest.{none}
use Rattle.receive.proofs.sound.in_order.Goals as goal

pub returns-then-not-storing : goal.returns-then-not-storing
returns-then-not-storing c =
    let s = c.args in
    rw (c.if-not-storing.true) (c.all_ended.ensures ∙ order-idle s.size s.count s.ram.now s.dir.now c.requires)

pub returns-then-count-eq0 : goal.returns-then-count-eq0
unfolding in_order
returns-then-count-eq0 c =
    let s = c.args in
    rw (c.if-not-storing.false, none s.size s.count s.ram.now s.dir.now c.if-count-eq0.true)

pub returns : goal.returns
returns c =
    let s = c.args in
    let w = get_or s.dir.now (s.count - 1) 0 in
    rw (c.if-not-storing.false)
    (ap (λ (t : Bool). t && (sized (w % 2048) && leb 32768 w)) c.all_ended-2.ensures ∙ order_busy s.size s.count s.ram.now s.dir.now c.requires c.if-count-eq0.false)
