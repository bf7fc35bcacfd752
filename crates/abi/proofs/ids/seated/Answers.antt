-- `ids::seated` meets its contract: each way of its tests is one of the definition.
-- Assumes nothing.
use borrow.Author.Rules.{rules}
use mathlib.Core.Path.{sym, ◌∙◌}
use Rattle.card_rules.proofs.Checked.{card-told}
use Rattle.card_rules.proofs.Judged.{passed}
use Rattle.abi.proofs.Port.{refuses, goes, identified}
use Rattle.abi.proofs.ids.seated.Goals as goal

pub returns-in-Err : goal.returns-in-Err
returns-in-Err c = refuses _ _ _ _ _ _ _ _ c.number.ensures (sym c.in-Err.is ∙ c.tested.ensures)

pub seat-card-requires : goal.seat-card-requires
seat-card-requires c =
    let p = passed _ _ _ _ (sym c.in_default.is ∙ c.tested.ensures) in
    let s = card-told c.args.c c.args.ram.now c.args.dir.now (search rules) (search rules) p.0 in
    (s, c.requires (identified _ _ _ s))

pub returns : goal.returns
returns c =
    let p = passed _ _ _ _ (sym c.in_default.is ∙ c.tested.ensures) in
    goes _ _ _ _ _ _ _ p.0 p.1 c.seat-card.ensures
