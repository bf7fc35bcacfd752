-- `catalogue_add::add` meets its contract: the tests are the definition's, in its order.
-- Assumes nothing.
use mathlib.Core.Path.{◌≡◌, sym, ◌∙◌}
use native.Mathlib.Omega.{arith}
use Rattle.std.proofs.Common.{rules, Err}
use Rattle.catalogue_add.proofs.Choice.{short, wrong_length, damaged, goes_on_lem}
use Rattle.catalogue_add.proofs.add.Goals.{then-out-lt145-via-then-out-lt145, then-out-lt145-via-else-out-lt145+then-out-file}
use Rattle.catalogue_add.proofs.add.Goals as goal

pub returns-then-out-lt145 : goal.returns-then-out-lt145
returns-then-out-lt145 c =
    short c.args.file.now c.args.image.now c.args.out.now
    (elim c.then-out-lt145.branch [ then-out-lt145-via-then-out-lt145 w ↦ omega arith | then-out-lt145-via-else-out-lt145+then-out-file w ↦ omega arith ])

pub returns-in_default : goal.returns-in_default
returns-in_default c = wrong_length c.args.file.now c.args.image.now c.args.out.now (omega arith) c.in_default.ensures.1

pub returns-in_err-counts : goal.returns-in_err-counts
returns-in_err-counts c =
    let told : c.from_residual.result ≡ Err c.in_err-counts.field-0.0 = search rules in
    rw told (damaged c.args.file.now c.args.image.now c.args.out.now (omega arith) c.in-Ok.ensures.1.long _ (sym c.in_err-counts.was ∙ c.parse.ensures))

pub returns-in-None : goal.returns-in-None
returns-in-None c =
    goes_on_lem c.args.file.now c.args.image.now c.args.out.now (omega arith) c.in-Ok.ensures.1.long c.in-Ok.ensures.1.same c.card.ensures

pub returns-in-Some : goal.returns-in-Some
returns-in-Some c =
    goes_on_lem c.args.file.now c.args.image.now c.args.out.now (omega arith) c.in-Ok.ensures.1.long c.in-Ok.ensures.1.same c.version.ensures
