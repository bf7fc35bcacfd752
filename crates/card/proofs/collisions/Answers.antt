-- `card::collisions` meets its contract: each way of its tests is one of the paper's. Assumes nothing.
use borrow.Author.Rules.{rules}
use mathlib.Core.Path.{refl, sym, ◌∙◌}
use Rattle.transmit_rules.proofs.Steps.{ready-some}
use Rattle.card_rules.specs.View.{view}
use Rattle.card_rules.proofs.Checked.{card-told}
use Rattle.card_rules.proofs.Judged.{passed, refuses, goes}
use Rattle.card.proofs.collisions.Goals as goal

pub returns-in-Err : goal.returns-in-Err
returns-in-Err c = rw c.refused.ensures (refuses _ _ _ 10 _ refl (sym c.in-Err.is ∙ c.ready.ensures) _ _ _ _ _)

pub collisions-card-requires : goal.collisions-card-requires
unfolding view
collisions-card-requires c =
    let p = passed _ _ _ _ (sym c.in_default.is ∙ c.ready.ensures) in
    let s = card-told _ _ _ (search rules) (search rules) p.0 in
    (s, ready-some _ c.args.c.transmit _ _ s.held.packets p.1)

pub returns : goal.returns
returns c =
    let p = passed _ _ _ _ (sym c.in_default.is ∙ c.ready.ensures) in
    goes _ _ 10 _ _ _ _ _ _ _ _ _ p.0 p.1 refl c.collisions-card.ensures
