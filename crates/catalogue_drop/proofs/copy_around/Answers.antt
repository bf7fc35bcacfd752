-- `catalogue_drop::copy_around` meets its contract: each part is put where the one before it ended.
-- Assumes nothing.
use mathlib.Core.Path.{◌∙◌}
use Rattle.catalogue_drop.proofs.Copies.{copied}
use Rattle.catalogue_drop.proofs.copy_around.Goals as goal

pub returns : goal.returns
returns c =
    let all = copied c.args.file.now c.args.kept c.args.at c.args.number c.args.image c.args.left c.requires.0 c.args.out.now c.requires.1
    c.bytes-one.ensures.0 c.bytes-one.ensures.1
    c.bytes-two.ensures.0 c.bytes-two.ensures.1
    c.bytes-three.ensures.0 c.bytes-three.ensures.1
    c.bytes-four.ensures.0 c.bytes-four.ensures.1
    c.count.ensures.1 in
    (c.count.ensures.0 ∙ all.0, all.1)
