-- `card::seat` meets its contract: each way of its tests is one of the paper's. Assumes nothing.
use borrow.Author.Rules.{rules}
use mathlib.Core.Path.{refl, sym, ◌∙◌}
use Rattle.card_rules.proofs.Checked.{card-told}
use Rattle.card_rules.proofs.Judged.{passed, refuses, goes}
use Rattle.card.proofs.seat.Goals as goal

pub returns-in-Err : goal.returns-in-Err
returns-in-Err c = rw c.refused.ensures (refuses _ _ _ 0 _ refl (sym c.in-Err.is ∙ c.seats.ensures) _ _ _ _ _)

pub seat-card-requires : goal.seat-card-requires
seat-card-requires c =
    let p = passed _ _ _ _ (sym c.in_default.is ∙ c.seats.ensures) in
    (card-told _ _ _ (search rules) (search rules) p.0, p.1)

pub returns : goal.returns
returns c =
    let p = passed _ _ _ _ (sym c.in_default.is ∙ c.seats.ensures) in
    goes _ _ 0 _ _ _ _ _ _ _ _ _ p.0 p.1 refl c.seat-card.ensures
