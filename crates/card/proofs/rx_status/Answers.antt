-- `card::rx_status` meets its contract: it is refused by the test of soundness alone, and else tells the definition's word and count. Assumes nothing.
use borrow.Author.Rules.{rules}
use mathlib.Core.Path.{refl, ◌∙◌, sym}
use Rattle.std.proofs.lemmas.Result.{err_from_is_err_and}
use Rattle.receive_rules.proofs.Count.{back}
use Rattle.card_rules.specs.View.{view}
use Rattle.card_rules.specs.RxStatus.{rx_word, rx_unread, rx_told}
use Rattle.card_rules.proofs.Checked.{card-told}
use Rattle.card_rules.proofs.Judged.{passed, told-unsound}
use Rattle.card.proofs.rx_status.Goals as goal

pub returns-in_err-sound : goal.returns-in_err-sound
unfolding rx_told
returns-in_err-sound c =
    let p = err_from_is_err_and c.from_residual.result c.from_residual.ensures.1 in
    let q = told-unsound _ _ (sym c.in_err-sound.was ∙ c.sound.ensures) in
    rw (p.1, p.2, q.0, q.1) refl

pub returns-then-not-c : goal.returns-then-not-c
unfolding rx_told rx_word rx_unread view
returns-then-not-c c =
    let p = passed _ _ _ _ (sym c.in_ok-sound.was ∙ c.sound.ensures) in
    rw (p.0, c.if-not-c.true) refl

pub invariant_of-seen : goal.invariant_of-seen
invariant_of-seen c =
    let p = passed _ _ _ _ (sym c.in_ok-sound.was ∙ c.sound.ensures) in
    card-told _ _ _ (search rules) (search rules) p.0

pub returns : goal.returns
unfolding rx_told rx_word rx_unread view
returns c =
    let p = passed _ _ _ _ (sym c.in_ok-sound.was ∙ c.sound.ensures) in
    rw (p.0, c.if-not-c.false, c.rx_status-word.ensures, back c.unread-unread.result c.unread-unread.type_inv, c.unread-unread.ensures) refl
