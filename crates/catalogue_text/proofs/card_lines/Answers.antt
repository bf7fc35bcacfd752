-- `catalogue_text::card_lines` is safe and ends: each whole field lies in the file, and is behind its head.
use Rattle.std.proofs.Common.{arith, sym, ◌∙◌}
use Rattle.catalogue_rules.proofs.At.{stands}
use Rattle.catalogue_text.proofs.card_lines.Goals as goal

pub loop-field-smaller : goal.loop-field-smaller
loop-field-smaller c =
    let w = stands {file = c.args.file.now} {at = c.loop-field.at} (sym c.in-Some.is ∙ c.field_at.ensures) in omega (arith, w.behind_head, w.fits)
