-- `card::wire_byte` meets its contract: each way of its tests is one of the paper's. Assumes nothing.
use borrow.Author.Rules.{rules}
use mathlib.Core.Path.{refl, sym, ◌∙◌}
use Rattle.card_rules.proofs.Checked.{card-told}
use Rattle.card_rules.proofs.Judged.{passed, refuses, goes}
use Rattle.card.proofs.wire_byte.Goals as goal

pub returns-in-Err : goal.returns-in-Err
returns-in-Err c = rw c.refused.ensures (refuses _ _ _ 10 _ refl (sym c.in-Err.is ∙ c.on_wire.ensures) _ _ _ _ _)

pub wire_byte-card-requires : goal.wire_byte-card-requires
wire_byte-card-requires c =
    let p = passed _ _ _ _ (sym c.in_default.is ∙ c.on_wire.ensures) in
    card-told _ _ _ (search rules) (search rules) p.0

pub returns : goal.returns
returns c =
    let p = passed _ _ _ _ (sym c.in_default.is ∙ c.on_wire.ensures) in
    goes _ _ 10 _ _ _ _ _ _ _ _ _ p.0 p.1 refl c.wire_byte-card.ensures
