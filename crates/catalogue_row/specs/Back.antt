-- Out after in, through the two calls: an archive that `import` moves in comes back from `export` byte for byte.
-- Assumes nothing.
use Rattle.std.specs.Prelude.{ℕ, ◌+◌, ◌*◌, ◌/◌, ◌%◌, ◌≤◌, ◌≡◌, false, List, length, take, Ok}
use Rattle.catalogue_rules.specs.Reading.{any_twice}
use Rattle.catalogue_rules.specs.Archive.{AllSound, addresses_in}
use Rattle.catalogue_rules.specs.Edit.{Change, images_in, imported, exported}
use Rattle.catalogue_rules.specs.Put.{answer_of, area_after}

-- The first n bytes that an import left in its area, exported.
abbrev pub out_again : List ℕ → List ℕ → List ℕ → ℕ → Change
out_again row area out n = exported (length out) (take n (area_after (imported (length area) row) area))

-- The import answers how many bytes its file has; the export of these answers the archive's length and leaves its bytes.
pub record ComesBack (row area out : List ℕ) : Type 0 where
  pub n : ℕ
  pub moved_in : answer_of (imported (length area) row) ≡ Ok n
  pub written_out : answer_of (out_again row area out n) ≡ Ok (length row)
  pub same : take (length row) (area_after (out_again row area out n) out) ≡ row

-- For whole images, at most 64, all sound, with addresses that differ, and areas that suffice.
abbrev pub RowComesBack : Type 0
RowComesBack =
    (row area out : List ℕ) → length row % 128 ≡ 0 → length row / 128 ≤ 64 → AllSound (images_in row) → any_twice (addresses_in (images_in row)) ≡ false
    → 145 * (length row / 128) + 5 ≤ length area → 8192 ≤ length out → ComesBack row area out
