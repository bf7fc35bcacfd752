-- `catalogue_read::check` meets its contract: a file whose fields are not in turn is refused as the walk refused it.
-- Assumes nothing.
use mathlib.Core.Path.{sym, ◌∙◌}
use Rattle.std.proofs.lemmas.Result.{err_from_is_err_and}
use Rattle.catalogue_rules.proofs.Checked.{is_refused_lem}
use Rattle.catalogue_read.proofs.check.Goals as goal

pub returns-in_err-counts : goal.returns-in_err-counts
returns-in_err-counts c =
    let p = err_from_is_err_and c.from_residual.result c.from_residual.ensures.1 in
    rw (p.1, p.2) (is_refused_lem c.args.file.now _ (sym c.in_err-counts.was ∙ c.walk.ensures))
