-- `catalogue_drop::drop_behind` meets its contract: it finds the number and the image, and counts the versions.
-- Assumes nothing.
use native.Mathlib.Omega.{arith}
use Rattle.catalogue_drop.proofs.Dropped.{last_goes, one_goes}
use Rattle.catalogue_drop.proofs.drop_behind.Goals as goal

pub returns-then-versions-lt2 : goal.returns-then-versions-lt2
returns-then-versions-lt2 c =
    last_goes c.args.file.now c.args.at c.args.fields c.field_place-number.ensures c.field_place-image.ensures c.versions.ensures (omega arith) _ _ c.args.out.now c.copy_around.ensures (omega arith) (omega arith)

pub returns : goal.returns
returns c =
    one_goes c.args.file.now c.args.at c.args.fields c.field_place-number.ensures c.field_place-image.ensures c.versions.ensures (omega arith) _ _ c.args.out.now c.copy_around-2.ensures (omega arith) (omega arith)
