-- A file whose fields were taken in turn.
-- Assumes nothing.
use Rattle.std.specs.Prelude.{ℕ, ◌≡◌, List, length}
use Rattle.catalogue_rules.specs.Field.{Field, fields_of}
use Rattle.catalogue_rules.specs.Reading.{catalogue, parsed, addresses_of}

-- A file whose fields were taken in turn, with so many cards, and so many fields before its count: the catalogue that it has.
pub record Parsed (file : List ℕ) (cards n : ℕ) : Type 0 where
  pub those : List Field
  pub is_parsed : parsed file ≡ catalogue those
  pub listed : cards ≡ length (addresses_of (fields_of file))
  pub many : n ≡ length those
