-- `card::interrupt_line` meets its contract: it is refused by the test of soundness alone, and else answers the definition's line. Assumes nothing.
use mathlib.Core.Path.{refl, ap, sym, ◌∙◌}
use Rattle.std.proofs.lemmas.Result.{err_from_is_err_and}
use Rattle.card_rules.specs.Calls.{value, judged, replying}
use Rattle.card_rules.proofs.Judged.{passed, told-unsound}
use Rattle.card.proofs.interrupt_line.Goals as goal

pub returns-in_err-sound : goal.returns-in_err-sound
unfolding judged replying
returns-in_err-sound c =
    let p = err_from_is_err_and c.from_residual.result c.from_residual.ensures.1 in
    let q = told-unsound _ _ (sym c.in_err-sound.was ∙ c.sound.ensures) in
    rw (p.1, p.2, q.0, q.1) refl

pub returns : goal.returns
unfolding judged replying
returns c =
    let p = passed _ _ _ _ (sym c.in_ok-sound.was ∙ c.sound.ensures) in
    rw (p.0) (ap value (c.interrupt_line.ensures _ _))
