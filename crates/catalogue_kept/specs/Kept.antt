-- What a change writes is read as the changed catalogue.
-- Theorems over the definitions alone.
-- Assumes nothing.
use Rattle.std.specs.Prelude.{ℕ, ◌<◌, ◌≡◌, List, length}
use Rattle.catalogue_rules.specs.Field.{Field}
use Rattle.catalogue_rules.specs.Reading.{catalogue, read}
use Rattle.catalogue_rules.specs.Cards.{versions_at}
use Rattle.catalogue_rules.specs.RoundTrip.{WellFormed, Bytes}
use Rattle.catalogue_rules.specs.Archive.{moved_in}
use Rattle.catalogue_rules.specs.Edit.{bytes, version_fields, with_version, with_added, without_version, latest_number, added_to, added, dropped_from, dropped, images_in, imported}

-- A file was read as a catalogue, and another is read as that catalogue, changed.
pub record Becomes (file after : List ℕ) (change : List Field → List Field) : Type 0 where
  pub those : List Field
  pub before : read file ≡ catalogue those
  pub now : read after ≡ catalogue (change those)

-- A card may have one version more, with this number.
pub record HasRoom (a n : ℕ) (fs : List Field) : Type 0 where
  pub few : length (versions_at a fs) < 8
  pub above : latest_number (versions_at a fs) < n
  pub small : n < 65536
  pub counted : length fs < 65534

-- Of any catalogue that can be written: with a version more where there is room it can be written still;
-- what an addition writes, a version more or a card more, is read as the catalogue with that addition;
-- what a drop writes, whether the card stays or leaves with its last version, as the catalogue without it.
pub record ChangesAreAccepted : Type 0 where
  pub version : (a n : ℕ) (image : List ℕ) (fs : List Field) → WellFormed fs → length image ≡ 128 → HasRoom a n fs → WellFormed (with_version a (version_fields n image) fs)
  pub addition : (image : List ℕ) (fs : List Field) (file : List ℕ) → WellFormed fs → length image ≡ 128 → added_to image fs ≡ bytes file → read file ≡ catalogue (with_added image fs)
  pub drop : (a : ℕ) (fs : List Field) (file : List ℕ) → WellFormed fs → dropped_from a fs ≡ bytes file → read file ≡ catalogue (without_version a fs)

-- The same from file to file, by the calls: what they write is read as the changed catalogue, and as no other.
pub record WrittenIsTheChanged : Type 0 where
  pub addition : (area : ℕ) (file image after : List ℕ) → Bytes file → added area file image ≡ bytes after → Becomes file after (with_added image)
  pub drop : (area : ℕ) (file : List ℕ) (a : ℕ) (after : List ℕ) → Bytes file → dropped area file a ≡ bytes after → Becomes file after (without_version a)
  pub archive : (area : ℕ) (row after : List ℕ) → imported area row ≡ bytes after → read after ≡ catalogue (moved_in (images_in row))
