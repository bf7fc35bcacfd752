-- `write::with_card` meets its contract: three puts, one behind the other.
-- Assumes nothing.
use Prim.Native.Nat.{◌+◌, ◌-◌}
use mathlib.Core.Path.{◌≡◌}
use mathlib.Core.List.{[], ◌∷◌}
use native.Mathlib.Omega.{arith}
use lib.ListN.{length, take}
use lib.Seq.{length-take-le}
use Rattle.catalogue_rules.specs.Field.{field, bytes_of}
use Rattle.catalogue_rules.specs.Reading.{count_field}
use Rattle.catalogue_rules.specs.Archive.{address_in}
use Rattle.catalogue_rules.specs.Edit.{version_fields}
use Rattle.catalogue_add.proofs.Whole.{count-length}
use Rattle.catalogue_add.proofs.Chains.{card-length, three-put}
use Rattle.catalogue_add.proofs.write.with_card.Goals as goal

pub returns : goal.returns
returns c =
    let n : length (take (length c.args.file.now - 5) c.args.file.now) ≡ length c.args.file.now - 5 = length-take-le (length c.args.file.now - 5) c.args.file.now (omega arith) in
    let k : length (bytes_of (field 1 (address_in c.args.image.now) ∷ version_fields 1 c.args.image.now)) ≡ 145 = card-length c.args.image.now (omega arith) in (
      omega arith,
      three-put c.args.out.now (take (length c.args.file.now - 5) c.args.file.now) (bytes_of (field 1 (address_in c.args.image.now) ∷ version_fields 1 c.args.image.now))
          {two = c.card-two.result} c.bytes-one.ensures.0 c.bytes-one.ensures.1 (omega arith) c.card-two.ensures.1
          (bytes_of (count_field (c.args.fields + 3) ∷ [])) (omega (arith, count-length (c.args.fields + 3))) c.count.ensures.1,
    )
