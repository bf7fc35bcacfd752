-- `card::success` meets its contract: each way of its tests is one of the paper's. Assumes nothing.
use borrow.Author.Rules.{rules}
use mathlib.Core.Path.{refl, ap, sym, ◌∙◌}
use lib.ListN.{length}
use Prim.Native.Nat.{◌≤◌}
use Rattle.transmit_rules.proofs.Steps.{ready-some}
use Rattle.card_rules.specs.View.{view}
use Rattle.card_rules.specs.Calls.{value}
use Rattle.card_rules.proofs.Checked.{card-told}
use Rattle.card_rules.proofs.Judged.{passed, refuses, goes, refused-area, told-area}
use Rattle.card.proofs.success.Goals as goal

pub returns-in-Err : goal.returns-in-Err
returns-in-Err c =
    let e = (sym c.in-Err.is ∙ c.ready.ensures) in
    record { success = rw c.refused.ensures (refuses _ _ _ 10 _ refl e _ _ _ _ _); success_area = refused-area _ _ _ 10 _ refl e _ _ }

pub success-gone-requires : goal.success-gone-requires
unfolding view
success-gone-requires c =
    let p = passed _ _ _ _ (sym c.in_default.is ∙ c.ready.ensures) in
    let s = card-told _ _ _ (search rules) (search rules) p.0 in
    let l : 1792 ≤ length c.args.out.now = search rules in
    (s, ready-some _ c.args.c.transmit _ _ s.held.packets p.1, l)

pub returns : goal.returns
returns c =
    let p = passed _ _ _ _ (sym c.in_default.is ∙ c.ready.ensures) in
    record {
      success = goes _ _ 10 _ _ _ _ _ _ _ _ _ p.0 p.1 (ap value c.success-gone.ensures.tells.count) c.success-gone.ensures.stands;
      success_area = told-area _ _ 10 _ _ _ _ p.0 p.1 c.success-gone.ensures.tells;
    }
