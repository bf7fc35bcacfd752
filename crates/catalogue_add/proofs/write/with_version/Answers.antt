-- `write::with_version` meets its contract: four puts, one behind the other.
-- Assumes nothing.
use Prim.Native.Nat.{◌+◌, ◌-◌}
use mathlib.Core.Path.{◌≡◌}
use mathlib.Core.List.{[], ◌∷◌}
use native.Mathlib.Omega.{arith}
use lib.ListN.{length, take, drop}
use lib.Seq.{length-take-le}
use Rattle.catalogue_rules.specs.Field.{bytes_of}
use Rattle.catalogue_rules.specs.Reading.{count_field}
use Rattle.catalogue_rules.specs.Edit.{version_fields}
use Rattle.catalogue_rules.proofs.Chain.{version-length}
use Rattle.catalogue_add.proofs.Whole.{count-length}
use Rattle.catalogue_add.proofs.Chains.{part_length, four_put}
use Rattle.catalogue_add.proofs.write.with_version.Goals as goal

pub returns : goal.returns
returns c =
    let n : length (take c.args.place c.args.file.now) ≡ c.args.place = length-take-le c.args.place c.args.file.now (omega arith) in
    let r : length (take (length c.args.file.now - 5 - c.args.place) (drop c.args.place c.args.file.now)) ≡ length c.args.file.now - 5 - c.args.place = part_length c.args.file.now c.args.place (omega arith) in
    let k : length (bytes_of (version_fields c.args.number c.args.image.now)) ≡ 136 = version-length c.args.number c.args.image.now (omega arith) in (
      omega arith,
      four_put c.args.out.now (take c.args.place c.args.file.now) (bytes_of (version_fields c.args.number c.args.image.now))
          c.bytes-one.ensures.0 c.bytes-one.ensures.1 (omega arith) c.version-two.ensures.1
          (take (length c.args.file.now - 5 - c.args.place) (drop c.args.place c.args.file.now)) (bytes_of (count_field (c.args.fields + 2) ∷ []))
          (omega (arith, count-length (c.args.fields + 2))) c.bytes-three.ensures.0 c.bytes-three.ensures.1 c.count.ensures.1,
    )
