-- `image_check::secondary` meets its contract: each running word, with the words that are left, is the whole; the vital one
-- has the words of the second walk left behind those of the first. The measures are the numbers of words left. Assumes nothing.
use mathlib.Core.Path.{◌≡◌, refl, ap₂, ◌∙◌}
use mathlib.Core.Bool.{not}
use mathlib.Core.List.{List, []}
use mathlib.Core.Logic.{⊎_elim}
use Prim.Native.Nat.{ℕ, ◌+◌, ◌*◌, ◌<◌}
use native.Mathlib.Omega.{arith}
use Rattle.image_rules.specs.Image.{byte_at, span, vital, configurable, secondary_of}
use Rattle.image_rules.proofs.Words.{Left, folded, whole_of, taken, walked, byte_of}
use Rattle.image_check.proofs.secondary.Invariants.{own, every}
use Rattle.image_check.proofs.Step.{step}
use Rattle.image_check.proofs.secondary.Goals as goal

-- Behind the last words they fold to the bytes of word 17h.
summed : (image : List ℕ) → ((place : ℕ) → byte_at image place < 256) → (v k w u : ℕ) → 0x16 < w → Left image (λ (u : ℕ). not (own u)) 0x16 [] (whole_of image configurable) w k
    → 0x3F < u → Left image every 0x3F [] (whole_of image vital) u v → folded v * 256 + folded k ≡ secondary_of image
unfolding secondary_of
summed image bytes v k w u first l second m =
    ap₂ (λ (x y : ℕ). x * 256 + y) (byte_of image vital bytes v (walked image every 0x3F [] _ u v m second))
    (byte_of image configurable bytes k (walked image _ 0x16 [] _ w k l first))

pub loop-w-init : goal.loop-w-init
loop-w-init c = (refl, refl)

pub loop-w-preserved : goal.loop-w-preserved
loop-w-preserved c =
    step c.args.image.now (span 0x10 0x12) (span 0x20 0x3F) 0x16 _ _ c.loop-w.w c.loop-w.vital c.loop-w.configurable _ (omega (arith, c.loop-w-test.true)) c.word_at-word.ensures c.loop-w.invariant
    (⊎_elim (λ e. (grind (arith, e), grind (arith, e))) (⊎_elim (λ e. (grind (arith, e), grind (arith, e))) (⊎_elim (λ e. (grind (arith, e), grind (arith, e))) absurd)))
    (λ n. (grind (arith, n.0, n.1.0, n.1.1.0), grind (arith, n.0, n.1.0, n.1.1.0)))

pub loop-w-2-init : goal.loop-w-2-init
loop-w-2-init c = walked _ own 0x16 (span 0x20 0x3F) _ c.loop-w.w c.loop-w.vital c.loop-w.invariant.0 (omega (arith, c.loop-w-test.false))

pub loop-w-2-preserved : goal.loop-w-2-preserved
loop-w-2-preserved c =
    taken _ every 0x3F [] _ c.loop-w-2.w c.loop-w-2.vital c.loop-w-2.invariant (omega (arith, c.loop-w-2-test.true)) refl _ c.word_at-vital.ensures

pub returns : goal.returns
returns c =
    let first = c.loop-w in
    let second = c.loop-w-2 in
    c.pair.ensures
    ∙ ap₂ (λ (x y : ℕ). x * 256 + y) c.folded.ensures c.folded-2.ensures
    ∙ summed _ (λ place. omega (arith, c.type_inv.image place)) second.vital first.configurable first.w second.w
    (omega (arith, c.loop-w-test.false)) first.invariant.1 (omega (arith, c.loop-w-2-test.false)) second.invariant
