-- `catalogue_drop::drop_oldest` meets its contract: what was judged and found on the way tells which case of the drop it is.
-- Assumes nothing.
use mathlib.Core.Path.{◌≡◌, refl, sym, ap, ◌∙◌}
use native.Mathlib.Omega.{arith}
use lib.ListN.{length}
use Rattle.std.proofs.Common.{rules, Ok, Err}
use Rattle.catalogue_rules.proofs.Changes.{settle}
use Rattle.catalogue_drop.proofs.Dropped.{too_short, no_file, no-card, too_many, is_twice, behind_it, new_so, placed_at, not_placed}
use Rattle.catalogue_drop.proofs.drop_oldest.Goals as goal

pub returns-then-out-file : goal.returns-then-out-file
returns-then-out-file c =
    settle c.args.out.now (too_short (length c.args.out.now) c.args.file.now c.args.address c.if-out-file.true) refl refl

pub returns-in_err-counts : goal.returns-in_err-counts
returns-in_err-counts c =
    let told : c.from_residual.result ≡ Err c.in_err-counts.field-0.0 = search rules in
    settle c.args.out.now (no_file (length c.args.out.now) c.args.file.now c.args.address c.if-out-file.false (sym c.in_err-counts.was ∙ c.parse.ensures)) told refl

pub returns-in_err-at : goal.returns-in_err-at
returns-in_err-at c =
    let told : c.from_residual-in_err-at.result ≡ Err c.in_err-at.field-0.0 = search rules in
    settle c.args.out.now (no-card (length c.args.out.now) c.args.file.now c.args.address c.if-out-file.false (sym c.in_ok-counts.was ∙ c.parse.ensures) ((not_placed _ c.ok_or.ensures.value c.in_err-at.was).0 ∙ c.card_place.ensures)) (told ∙ ap Err (not_placed _ c.ok_or.ensures.value c.in_err-at.was).1) refl

pub returns-then-counts-gt64 : goal.returns-then-counts-gt64
returns-then-counts-gt64 c =
    settle c.args.out.now (too_many (length c.args.out.now) c.args.file.now c.args.address c.if-out-file.false (sym c.in_ok-counts.was ∙ c.parse.ensures) (placed_at _ c.ok_or.ensures.value c.in_ok-at.was ∙ c.card_place.ensures) c.if-counts-gt64.true) refl refl

pub returns-then-twice : goal.returns-then-twice
returns-then-twice c =
    settle c.args.out.now (is_twice (length c.args.out.now) c.args.file.now c.args.address c.if-out-file.false (sym c.in_ok-counts.was ∙ c.parse.ensures) (placed_at _ c.ok_or.ensures.value c.in_ok-at.was ∙ c.card_place.ensures) c.if-counts-gt64.false c.twice.ensures c.if-twice.true) refl refl

pub drop_behind-requires : goal.drop_behind-requires
drop_behind-requires c =
    (behind_it (length c.args.out.now) c.args.file.now c.args.address c.if-out-file.false (sym c.in_ok-counts.was ∙ c.parse.ensures) (placed_at _ c.ok_or.ensures.value c.in_ok-at.was ∙ c.card_place.ensures) c.if-counts-gt64.false c.twice.ensures c.if-twice.false (λ i. omega (arith, c.type_inv.file i)), search rules)

pub returns : goal.returns
returns c =
    settle c.args.out.now (new_so (length c.args.out.now) c.args.file.now c.args.address c.if-out-file.false (sym c.in_ok-counts.was ∙ c.parse.ensures) (placed_at _ c.ok_or.ensures.value c.in_ok-at.was ∙ c.card_place.ensures) c.if-counts-gt64.false c.twice.ensures c.if-twice.false (λ i. omega (arith, c.type_inv.file i))) (ap Ok c.drop_behind.ensures.0) c.drop_behind.ensures.1
