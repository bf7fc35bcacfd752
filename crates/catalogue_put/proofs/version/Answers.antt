-- `catalogue_put::version` meets its contract: eight bytes and the image are the two fields.
-- Assumes nothing.
use Prim.Native.Nat.{ℕ, ◌/◌, ◌%◌}
use native.Mathlib.Omega.{arith}
use mathlib.Core.Path.{◌≡◌, refl, ap, ap₂, ◌∙◌}
use mathlib.Core.List.{[], ◌∷◌}
use lib.ListN.{get_or}
use Rattle.catalogue_rules.specs.Put.{put_at}
use Rattle.catalogue_rules.proofs.Chain.{both-put, version-bytes}
use Rattle.catalogue_put.proofs.version.Goals as goal

pub returns : goal.returns
returns c =
    let low : get_or c.to_le_bytes.result 0 0 ≡ c.args.number % 256 = rw c.to_le_bytes.ensures refl in
    let high : get_or c.to_le_bytes.result 1 0 ≡ c.args.number / 256 = rw c.to_le_bytes.ensures (omega arith) in (
      omega arith,
      both-put c.args.out.now c.args.at (2 ∷ 2 ∷ 0 ∷ c.args.number % 256 ∷ c.args.number / 256 ∷ 3 ∷ 128 ∷ 0 ∷ []) c.args.image.now (omega arith)
          c.bytes-behind.ensures.0
          (c.bytes-behind.ensures.1 ∙ ap₂ (λ (x y : ℕ). put_at c.args.out.now c.args.at (2 ∷ 2 ∷ 0 ∷ x ∷ y ∷ 3 ∷ 128 ∷ 0 ∷ [])) low high)
          c.bytes.ensures.1
          ∙ ap (put_at c.args.out.now c.args.at) (version-bytes c.args.number c.args.image.now (omega arith)),
    )
