-- `catalogue_row::export` meets its contract: an accepted file's images fit into the area.
-- Assumes nothing.
use native.Mathlib.Omega.{arith}
use mathlib.Core.Path.{◌≡◌, sym, ◌∙◌}
use lib.ListN.{length}
use Rattle.std.proofs.Common.{rules, Err}
use Rattle.catalogue_rules.proofs.Changes.{writing}
use Rattle.catalogue_row.proofs.Fitting.{Fitting, fitting, narrow, damaged}
use Rattle.catalogue_row.proofs.export.Goals as goal

pub returns-then-out-lt8192 : goal.returns-then-out-lt8192
returns-then-out-lt8192 c = narrow c.args.out.now c.args.file.now (omega arith)

pub returns-in_err-check : goal.returns-in_err-check
returns-in_err-check c =
    let told : c.from_residual.result ≡ Err c.in_err-check.field-0.0 = search rules in
    rw told (damaged c.args.out.now c.args.file.now (omega arith) _ (sym c.in_err-check.was ∙ c.check.ensures))

pub row-requires : goal.row-requires
row-requires c =
    let f : Fitting (length c.args.out.now) c.args.file.now = fitting _ (omega arith) _ (λ i. omega (arith, c.type_inv.file i)) (sym c.in_ok-check.was ∙ c.check.ensures) in
    (f.images, omega (arith, f.few))

pub returns : goal.returns
returns c =
    let f : Fitting (length c.args.out.now) c.args.file.now = fitting _ (omega arith) _ (λ i. omega (arith, c.type_inv.file i)) (sym c.in_ok-check.was ∙ c.check.ensures) in
    writing _ _ f.is _ _ _ c.row.ensures.0 c.row.ensures.1
