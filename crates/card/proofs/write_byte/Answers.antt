-- `card::write_byte` meets its contract: each way of its tests is one of the paper's. Assumes nothing.
use borrow.Author.Rules.{rules}
use mathlib.Core.Path.{refl, sym, ◌∙◌}
use Rattle.card_rules.proofs.Checked.{card-told}
use Rattle.card_rules.proofs.Judged.{passed, refuses, goes}
use Rattle.card.proofs.write_byte.Goals as goal

pub returns-in-Err : goal.returns-in-Err
returns-in-Err c = rw c.refused.ensures (refuses _ _ _ 11 _ refl (sym c.in-Err.is ∙ c.byte.ensures) _ _ _ _ _)

pub write_byte-card-requires : goal.write_byte-card-requires
write_byte-card-requires c =
    let p = passed _ _ _ _ (sym c.in_default.is ∙ c.byte.ensures) in
    card-told _ _ _ (search rules) (search rules) p.0

pub returns : goal.returns
returns c =
    let p = passed _ _ _ _ (sym c.in_default.is ∙ c.byte.ensures) in
    goes _ _ 11 _ _ _ _ _ _ _ _ _ p.0 p.1 refl c.write_byte-card.ensures
