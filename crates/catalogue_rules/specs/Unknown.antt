-- Nothing unknown is ever lost: a change leaves the unknown fields as they are, in their order.
-- A theorem over the definitions alone.
-- Assumes nothing.
use Rattle.std.specs.Prelude.{ℕ, ◌≡◌, Bool, cond, ◌||◌, List, [], ◌∷◌, ◌++◌, eqb}
use Rattle.catalogue_rules.specs.Field.{Field, field}
use Rattle.catalogue_rules.specs.Edit.{version_fields, with_version, without_version}

-- Tags 1 to 3.
abbrev pub is_known : Field → Bool
is_known f = eqb f.tag 1 || (eqb f.tag 2 || eqb f.tag 3)

unfoldable pub unknown_of : List Field → List Field
unknown_of [] = []
unknown_of (f ∷ fs) = cond (is_known f) (unknown_of fs) (f ∷ unknown_of fs)

-- A version added to a card, a card added, the oldest version dropped.
pub record Stay (a n : ℕ) (address image : List ℕ) (fs : List Field) : Type 0 where
  pub version_added : unknown_of (with_version a (version_fields n image) fs) ≡ unknown_of fs
  pub card_added : unknown_of (fs ++ (field 1 address ∷ version_fields n image)) ≡ unknown_of fs
  pub oldest_dropped : unknown_of (without_version a fs) ≡ unknown_of fs

abbrev pub UnknownFieldsStay : Type 0
UnknownFieldsStay = (a n : ℕ) (address image : List ℕ) (fs : List Field) → Stay a n address image fs
