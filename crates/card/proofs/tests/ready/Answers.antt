-- `tests::ready` decides by the packets in the card's own memory, which it reads as the definition does where the state is sound. Assumes nothing.
use borrow.Author.Rules.{rules}
use mathlib.Core.Path.{◌∙◌}
use Rattle.card_rules.specs.View.{view}
use Rattle.card_rules.proofs.Checked.{card-told}
use Rattle.card_rules.proofs.Judged.{tested-alike}
use Rattle.card.proofs.tests.ready.Goals as goal

pub returns : goal.returns
unfolding view
returns c = c.allowed.ensures ∙ rw c.is_sound.ensures (tested-alike _ _ _ _ (λ e. c.is_ready-ok.ensures _ _ _ (card-told _ _ _ (search rules) (search rules) e).held.packets))
