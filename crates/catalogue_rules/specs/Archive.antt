-- Today's archive is a row of bare 128-byte images: it is moved in as version 1 of each card, and written out in the same order.
-- Assumes nothing.
use Rattle.std.specs.Prelude.{ℕ, ◌≤◌, ◌≡◌, Bool, true, false, List, [], ◌∷◌, ◌++◌, length, get_or, Result, Ok, Err}
use Rattle.refusal.specs.declared.Refusal.{Refusal}
use Rattle.image_rules.specs.declared.Node.{Node}
use Rattle.image_rules.specs.Image.{check_of}
use Rattle.catalogue_rules.specs.Field.{Field, field}
use Rattle.catalogue_rules.specs.Turns.{address_of}
use Rattle.catalogue_rules.specs.Reading.{catalogue, read, file_of, any_twice}
use Rattle.catalogue_rules.specs.Cards.{Version, Card, cards_of}

-- The bytes of an archive.
unfoldable pub row_of : List (List ℕ) → List ℕ
row_of [] = []
row_of (image ∷ images) = image ++ row_of images

-- An image's node address, words 00h to 02h, high byte first.
abbrev pub address_in : List ℕ → List ℕ
address_in image = get_or image 1 0 ∷ get_or image 0 0 ∷ get_or image 3 0 ∷ get_or image 2 0 ∷ get_or image 5 0 ∷ get_or image 4 0 ∷ []

-- Each image becomes version 1 of its card.
unfoldable pub moved_in : List (List ℕ) → List Field
moved_in [] = []
moved_in (image ∷ images) = field 1 (address_in image) ∷ field 2 (1 ∷ 0 ∷ []) ∷ field 3 image ∷ moved_in images

-- The latest image of each card, in the catalogue's order.
unfoldable pub latest_of : List Version → List ℕ
latest_of [] = []
latest_of (v ∷ []) = v.image
latest_of (v ∷ w ∷ vs) = latest_of (w ∷ vs)

unfoldable pub images_of : List Card → List (List ℕ)
images_of [] = []
images_of (c ∷ cards) = latest_of c.versions ∷ images_of cards

abbrev pub moved_out : List Field → List ℕ
moved_out fs = row_of (images_of (cards_of fs))

-- All sound, with addresses that differ.
abbrev pub is_sound : Result Node Refusal → Bool
is_sound (Ok node) = true
is_sound (Err why) = false

unfoldable pub AllSound : List (List ℕ) → Type 0
AllSound [] = Unit
AllSound (image ∷ images) = (is_sound (check_of image) ≡ true) × AllSound images

unfoldable pub addresses_in : List (List ℕ) → List ℕ
addresses_in [] = []
addresses_in (image ∷ images) = address_of (address_in image) ∷ addresses_in images

-- Moved in, the archive is a catalogue whose file is accepted; written out, it is the same bytes.
pub record BackAsItCame (images : List (List ℕ)) : Type 0 where
  pub accepted : read (file_of (moved_in images)) ≡ catalogue (moved_in images)
  pub same : moved_out (moved_in images) ≡ row_of images

-- Out after in gives the same bytes for at most 64 images, all sound, with addresses that differ.
abbrev pub OutAfterIn : Type 0
OutAfterIn =
    (images : List (List ℕ)) → length images ≤ 64 → AllSound images → any_twice (addresses_in images) ≡ false → BackAsItCame images
