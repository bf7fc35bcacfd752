-- `opening::order`: the loop keeps that what is left to order is the rest of the commands. Assumes nothing.
use Rattle.std.proofs.Common.{sym, ◌∙◌, ap}
use Rattle.std.proofs.lemmas.List.{drop_all}
use mathlib.Core.List.{List, map}
use Prim.Native.Nat.{ℕ}
use Rattle.card_rules.specs.View.{view}
use Rattle.driver_rules.specs.Open.{command}
use Rattle.driver_rules.specs.Talk.{after}
use Rattle.driver_rules.proofs.Runs.{wrote}
use Rattle.driver_rules.proofs.OpenWays.{order_turn}
use Rattle.opening.proofs.order.Goals as goal

pub loop-command-preserved : goal.loop-command-preserved
loop-command-preserved c =
    (c.write_word-at.ensures.sound, c.loop-command.invariant.1 ∙ order_turn _ _ _ _ _ c.loop-command-test.true (wrote _ c.write_word-at.ensures))

pub returns : goal.returns
unfolding after
returns c =
    let L = c.loop-command in
    record { shows = sym (L.invariant.1 ∙ ap (λ (vs : List ℕ). after (map command vs) (view L.at L.ram L.dir)) (drop_all _ _ c.loop-command-test.false)); sound = L.invariant.0 }
