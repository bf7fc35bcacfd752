-- `catalogue_put::card` meets its contract: the address field, and behind it the version's two fields.
-- Assumes nothing.
use native.Mathlib.Omega.{arith}
use Rattle.catalogue_rules.specs.Field.{field, bytes_of, written}
use Rattle.catalogue_rules.specs.Archive.{address_in}
use Rattle.catalogue_rules.specs.Edit.{version_fields}
use Rattle.catalogue_rules.proofs.Chain.{both-put, version-length}
use Rattle.catalogue_put.proofs.card.Goals as goal

pub returns : goal.returns
unfolding bytes_of
returns c = (
  omega arith,
  both-put c.args.out.now c.args.at (written (field 1 (address_in c.args.image.now))) (bytes_of (version_fields 1 c.args.image.now))
      (omega (arith, version-length 1 c.args.image.now (omega arith))) c.bytes-behind.ensures.0 c.bytes-behind.ensures.1 c.version.ensures.1,
)
