-- What a catalogue means: cards with their versions. Unknown fields are not looked at.
-- Assumes nothing.
use Rattle.std.specs.Prelude.{ℕ, cond, List, [], ◌∷◌, eqb}
use Rattle.catalogue_rules.specs.Field.{Field, number_at}
use Rattle.catalogue_rules.specs.Turns.{address_of}

pub record Version : Type 0 where
  pub number : ℕ
  pub image : List ℕ

pub record Card : Type 0 where
  pub address : ℕ
  pub versions : List Version

-- The versions up to the next card: each image, with the number before it.
unfoldable pub versions_from : ℕ → List Field → List Version
versions_from n [] = []
versions_from n (f ∷ fs) =
    cond (eqb f.tag 1) []
    (cond (eqb f.tag 2) (versions_from (number_at f.value 0) fs)
    (cond (eqb f.tag 3) (record { number = n; image = f.value } ∷ versions_from n fs)
    (versions_from n fs)))

-- The cards, in the order of the file.
unfoldable pub cards_of : List Field → List Card
cards_of [] = []
cards_of (f ∷ fs) = cond (eqb f.tag 1) (record { address = address_of f.value; versions = versions_from 0 fs } ∷ cards_of fs) (cards_of fs)

-- The versions of the card at an address; none where there is no such card.
unfoldable pub versions_at : ℕ → List Field → List Version
versions_at a [] = []
versions_at a (f ∷ fs) = cond (eqb f.tag 1) (cond (eqb (address_of f.value) a) (versions_from 0 fs) (versions_at a fs)) (versions_at a fs)
