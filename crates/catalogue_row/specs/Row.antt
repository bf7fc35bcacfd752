-- What private functions of `catalogue_row` ensure: nobody needs it to believe the calls.
-- Assumes nothing.
use Rattle.std.specs.Prelude.{ℕ, ◌≡◌, cond, List, [], ◌∷◌, length, eqb}
use Rattle.catalogue_rules.specs.Field.{Field}
use Rattle.catalogue_rules.specs.Cards.{versions_from}
use Rattle.catalogue_rules.specs.Archive.{latest_of}

-- Every image among the fields has 128 bytes.
unfoldable pub Images : List Field → Type 0
Images [] = Unit
Images (f ∷ fs) = (f.tag ≡ 3 → length f.value ≡ 128) × Images fs

-- What a field adds to the archive, with the fields behind it: an address its card's latest image, another nothing.
unfoldable pub of_field : ℕ → List Field → List ℕ
of_field tag fs = cond (eqb tag 1) (latest_of (versions_from 0 fs)) []
