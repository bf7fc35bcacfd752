-- `card::read_byte` meets its contract: each way of its tests is one of the paper's. Assumes nothing.
use borrow.Author.Rules.{rules}
use borrow.Author.Tests.{not-true}
use mathlib.Core.Path.{refl, ap, sym, ◌∙◌}
use mathlib.Core.Bool.{not, ◌&&◌}
use lib.Dec.{ltb, leb, eqb}
use Rattle.bits.proofs.Tests.{both}
use Rattle.card_rules.proofs.StepEnds.{beside_data}
use Rattle.card_rules.specs.Calls.{value}
use Rattle.card_rules.proofs.Checked.{card-told}
use Rattle.card_rules.proofs.Judged.{passed, refuses, goes}
use Rattle.card.proofs.read_byte.Goals as goal

pub returns-in-Err : goal.returns-in-Err
returns-in-Err c = rw c.refused.ensures (refuses _ _ _ 11 _ refl (sym c.in-Err.is ∙ c.byte.ensures) _ _ _ _ _)

pub read_byte-got-requires : goal.read_byte-got-requires
read_byte-got-requires c =
    let p = passed _ _ _ _ (sym c.in_default.is ∙ c.byte.ensures) in
    let o = c.args.o in
    let w = c.args.c.select.window in
    (card-told _ _ _ (search rules) (search rules) p.0, beside_data o w (not-true _ (both (leb o 15) (not (ltb o 4 && eqb w 1)) p.1).1))

pub returns : goal.returns
returns c =
    let p = passed _ _ _ _ (sym c.in_default.is ∙ c.byte.ensures) in
    goes _ _ 11 _ _ _ _ _ _ _ _ _ p.0 p.1 (ap value c.read_byte-got.ensures.value) c.read_byte-got.ensures.stands
