-- `sound::all_ended` meets its contract: after i turns the answer is that of the first i words. Assumes nothing.
use mathlib.Core.Path.{◌≡◌, refl, ap, ◌∙◌}
use mathlib.Core.Bool.{Bool, ◌&&◌}
use mathlib.Core.List.{List}
use Prim.Native.Nat.{ℕ, ◌%◌}
use lib.Dec.{ltb}
use lib.ListN.{take, get_or}
use Rattle.receive_rules.specs.Sound.{sized}
use Rattle.receive_rules.specs.View.{all_ended}
use Rattle.receive_rules.proofs.Order.{all_more}
use Rattle.receive.proofs.sound.all_ended.Goals as goal

pub loop-w-init : goal.loop-w-init
unfolding all_ended
loop-w-init c = refl

pub loop-w-preserved : goal.loop-w-preserved
loop-w-preserved c =
    let ws : List ℕ = take c.args.count c.args.dir.now in
    let i : ℕ = c.loop-w.w-index in
    ap (λ (t : Bool). t && (sized (get_or ws i 0 % 2048) && ltb (get_or ws i 0) 32768)) c.loop-w.invariant ∙ all_more ws i c.loop-w-test.true
