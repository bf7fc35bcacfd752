-- `image_check::checksum` meets its contract: each running word, with the words that are left, is the whole, and folding
-- whole words is exclusive-or'ing their bytes. The measure is the number of words left. Assumes nothing.
use mathlib.Core.Path.{◌≡◌, refl, ap₂, ◌∙◌}
use mathlib.Core.List.{List, []}
use mathlib.Core.Logic.{⊎_elim}
use Prim.Native.Nat.{ℕ, ◌+◌, ◌*◌, ◌<◌}
use native.Mathlib.Omega.{arith}
use Rattle.image_rules.specs.Image.{span, except, configuration, checksum_of, byte_at}
use Rattle.image_rules.proofs.Words.{folded, walked, byte_of}
use Rattle.image_check.proofs.checksum.Invariants.{own, Running}
use Rattle.image_check.proofs.Step.{step}
use Rattle.image_check.proofs.checksum.Goals as goal

-- Behind the last word they fold to the bytes of the checksum.
summed : (image : List ℕ) → ((place : ℕ) → byte_at image place < 256) → (w low high : ℕ) → 0x0E < w → Running image w low high
    → folded high * 256 + folded low ≡ checksum_of image
unfolding checksum_of
summed image bytes w low high over r =
    ap₂ (λ (x y : ℕ). x * 256 + y) (byte_of image (except (span 0x00 0x0E) configuration) bytes high (walked image _ 0x0E [] _ w high r.1 over))
    (byte_of image configuration bytes low (walked image own 0x0E [] _ w low r.0 over))

pub loop-w-init : goal.loop-w-init
loop-w-init c = (refl, refl)

pub loop-w-preserved : goal.loop-w-preserved
loop-w-preserved c =
    step c.args.image.now configuration [] 0x0E _ _ c.loop-w.w c.loop-w.low c.loop-w.high _ (omega (arith, c.loop-w-test.true)) c.word_at-word.ensures c.loop-w.invariant
    (⊎_elim (λ e. (grind (arith, e), grind (arith, e))) (⊎_elim (λ e. (grind (arith, e), grind (arith, e))) (⊎_elim (λ e. (grind (arith, e), grind (arith, e))) absurd)))
    (λ n. (grind (arith, n.0, n.1.0, n.1.1.0), grind (arith, n.0, n.1.0, n.1.1.0)))

pub returns : goal.returns
returns c =
    c.pair.ensures
    ∙ ap₂ (λ (x y : ℕ). x * 256 + y) c.folded.ensures c.folded-2.ensures
    ∙ summed _ (λ place. omega (arith, c.type_inv.image place)) c.loop-w.w c.loop-w.low c.loop-w.high (omega (arith, c.loop-w-test.false)) c.loop-w.invariant
