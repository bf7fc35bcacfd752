-- `card::read_word` meets its contract: each way of its tests is one of the paper's. Assumes nothing.
use borrow.Author.Rules.{rules}
use mathlib.Core.Path.{refl, ap, sym, ◌∙◌}
use borrow.Author.Tests.{eqb-true}
use Prim.Native.Nat.{◌%◌}
use lib.Dec.{leb, eqb}
use Rattle.bits.proofs.Tests.{both}
use Rattle.card_rules.specs.Calls.{value}
use Rattle.card_rules.proofs.Checked.{card-told}
use Rattle.card_rules.proofs.Judged.{passed, refuses, goes}
use Rattle.card.proofs.read_word.Goals as goal

pub returns-in-Err : goal.returns-in-Err
returns-in-Err c = rw c.refused.ensures (refuses _ _ _ 11 _ refl (sym c.in-Err.is ∙ c.word.ensures) _ _ _ _ _)

pub read_word-got-requires : goal.read_word-got-requires
read_word-got-requires c =
    let p = passed _ _ _ _ (sym c.in_default.is ∙ c.word.ensures) in
    let o = c.args.o in
    (card-told _ _ _ (search rules) (search rules) p.0, eqb-true (o % 2) 0 (both (leb o 15) (eqb (o % 2) 0) p.1).1)

pub returns : goal.returns
returns c =
    let p = passed _ _ _ _ (sym c.in_default.is ∙ c.word.ensures) in
    goes _ _ 11 _ _ _ _ _ _ _ _ _ p.0 p.1 (ap value c.read_word-got.ensures.value) c.read_word-got.ensures.stands
