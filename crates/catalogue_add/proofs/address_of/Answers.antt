-- `catalogue_add::address_of` meets its contract: three words are six bytes.
-- Assumes nothing.
use native.Mathlib.Omega.{arith}
use Rattle.image_rules.specs.Image.{word_at}
use Rattle.catalogue_rules.specs.Turns.{address_of}
use Rattle.catalogue_add.proofs.address_of.Goals as goal

pub returns : goal.returns
unfolding word_at address_of
returns c = omega (arith, c.word_at-high.ensures, c.word_at-middle.ensures, c.word_at-low.ensures)
