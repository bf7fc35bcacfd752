-- `struck` meets its contract: one address more is struck, or left, with each turn.
-- Assumes nothing.
use Rattle.std.proofs.Common.{◌≡◌, refl, ◌∙◌, arith, cond, eqb, get_or}
use borrow.Author.Tests.{eq-eqb, ne_eqb}
use Rattle.port_rules.specs.Search.{all_ones}
use Rattle.bits.specs.UpTo.{up_to}
use Rattle.bits.proofs.UpTo.{up_to_turn, up_to_all}
use Rattle.lent_port.specs.Roll.{struck}
use Rattle.lent_port.proofs.roll.struck.Goals as goal
use Rattle.lent_port.proofs.roll.struck.Goals.{then-x-address, else-x-address}

pub loop-x-init : goal.loop-x-init
unfolding up_to
loop-x-init c = refl

pub loop-x-preserved : goal.loop-x-preserved
loop-x-preserved c =
    let xs = c.loop-x.x-items in
    let i = c.loop-x.x-index in
    let e : c.if-x-address.x ≡ cond (eqb (get_or xs i 0) c.args.address) all_ones (get_or xs i 0) =
    elim c.if-x-address.branch [ then-x-address w ↦ rw (eq-eqb _ _ w.if-x-address.true) w.x-is | else-x-address w ↦ rw (ne_eqb _ _ w.if-x-address.false) w.x-is ] in
    up_to_turn _ i _ _ 0 _ c.loop-x.invariant e

pub returns : goal.returns
unfolding struck
returns c = c.loop-x.invariant ∙ up_to_all _ _ _ (omega arith)
