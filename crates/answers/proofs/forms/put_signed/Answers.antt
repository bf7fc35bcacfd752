-- `forms::put_signed` meets its contract: a minus sign stands where the number is below 0, and the machine reads back what it was handed. Assumes nothing.
use Rattle.std.proofs.Common.{◌≡◌, List, ℕ, [], ◌∷◌, ◌++◌, ap, ◌∙◌, append_assoc, to_z, of_z}
use mir.Syntax.{w16}
use mir.ValLaws.{to_z-of_z}
use lib.IntN.{nat_abs}
use Rattle.bench_rules.specs.Text.{decimal_text}
use Rattle.bench_rules.specs.Answers.{signed_text}
use Rattle.bench_rules.proofs.Spoken.{below_zero, from_zero}
use Rattle.answers.proofs.forms.put_signed.Goals as goal
use Rattle.answers.proofs.forms.put_signed.Goals.{then-n-lt0, else-n-lt0}

pub returns-clause-text : goal.returns-clause-text
returns-clause-text c =
    let read : to_z w16 (of_z w16 c.args.n) ≡ c.args.n = to_z-of_z w16 c.args.n c.ranges.n in
    elim c.if-n-lt0.branch [
      | then-n-lt0 w ↦ rw (c.put_decimal.ensures.text, c.from.ensures, c.unsigned_abs.ensures.value, w.text-is, w.put.ensures) (append_assoc c.args.text.now (0x2D ∷ []) (decimal_text (nat_abs (to_z w16 (of_z w16 c.args.n)))) ∙ ap (λ (l : List ℕ). c.args.text.now ++ l) (below_zero _ w.if-n-lt0.true ∙ ap signed_text read))
      | else-n-lt0 w ↦ rw (c.put_decimal.ensures.text, c.from.ensures, c.unsigned_abs.ensures.value, w.text-is) (ap (λ (l : List ℕ). c.args.text.now ++ l) (from_zero _ w.if-n-lt0.false ∙ ap signed_text read))
    ]
