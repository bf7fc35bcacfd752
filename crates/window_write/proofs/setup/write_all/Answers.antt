-- `setup::write_all` meets its contract: the words before the loop's place are masked. Assumes nothing.
use borrow.Author.Rules.{rules}
use mathlib.Core.Path.{◌≡◌, refl, sym, ap, ◌∙◌}
use Prim.Native.Nat.{ℕ}
use mathlib.Core.List.{List}
use native.Mathlib.Omega.{arith}
use Rattle.bits.specs.UpTo.{up_to}
use Rattle.bits.proofs.UpTo.{up_to_none, up_to_turn, up_to_all}
use Rattle.card_rules.specs.Update.{id_words}
use Rattle.window_write.proofs.setup.write_all.Invariants.{masked}
use Rattle.window_write.proofs.setup.write_all.Goals as goal

pub loop-w-init : goal.loop-w-init
loop-w-init c = sym (up_to_none (masked c.args.i.shift) c.args.i.words)

pub loop-w-preserved : goal.loop-w-preserved
loop-w-preserved c = up_to_turn (masked c.args.i.shift) c.loop-w.w-index c.args.i.words c.loop-w.w-items 0 _ c.loop-w.invariant refl

pub returns : goal.returns
returns c =
    let i = c.args.i in
    let n : c.loop-w.w-index ≡ 64 = omega (arith, c.loop-w-test.false, c.loop-w.auto.w-index-end) in
    ap (λ (ws : List ℕ). id_words ws i)
    (c.loop-w.invariant ∙ ap (λ (k : ℕ). up_to (masked i.shift) k i.words) n ∙ up_to_all (masked i.shift) 64 i.words (search rules))
