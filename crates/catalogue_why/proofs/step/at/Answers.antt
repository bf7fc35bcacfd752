-- `step::at` meets its contract: a whole field lies in the file, and is behind its place.
use Rattle.std.proofs.Common.{arith, sym, ◌∙◌}
use Rattle.catalogue_rules.proofs.At.{stands}
use Rattle.catalogue_why.proofs.step.at.Goals as goal

pub returns : goal.returns
returns c =
    let w = stands {file = c.args.file.now} {at = c.args.at} (sym c.in_ok-field.was ∙ c.field_at.ensures) in
    (omega (arith, w.behind_head), omega (arith, w.fits))
