-- `good::good_words` meets its contract: after i turns the answer is that of the first i words. Assumes nothing.
use mathlib.Core.Path.{◌≡◌, refl, ap, ◌∙◌}
use mathlib.Core.Bool.{Bool, ◌&&◌}
use mathlib.Core.List.{List}
use Prim.Native.Nat.{ℕ, ◌+◌, ◌-◌, ◌%◌}
use lib.ListN.{take, drop, get_or}
use native.Mathlib.Omega.{arith}
use Rattle.std.proofs.lemmas.List.{take_all}
use Rattle.transmit_rules.specs.Write.{sized}
use Rattle.transmit_rules.specs.QueueView.{good_words}
use Rattle.transmit_rules.proofs.QueueSound.{good_more}
use Rattle.queue.proofs.good.good_words.Goals as goal

pub loop-w-init : goal.loop-w-init
unfolding good_words
loop-w-init c = refl

pub loop-w-preserved : goal.loop-w-preserved
loop-w-preserved c =
    let s = c.args in
    let ws : List ℕ = take (768 + s.n - 768) (drop 768 s.dir.now) in
    let i : ℕ = c.loop-w.w-index in
    ap (λ (t : Bool). t && sized (get_or ws i 0 % 2048)) c.loop-w.invariant ∙ good_more ws i c.loop-w-test.true

pub returns : goal.returns
returns c =
    let s = c.args in
    let ws : List ℕ = take (768 + s.n - 768) (drop 768 s.dir.now) in
    c.loop-w.invariant ∙ ap good_words (take_all c.loop-w.w-index ws (omega (arith, c.loop-w-test.false, c.loop-w.auto.w-index-end))) ∙ ap (λ (k : ℕ). good_words (take k (drop 768 s.dir.now))) (omega arith)
