-- The contract of each public call on an image, by its name. Assumes nothing.
use Rattle.std.specs.Prelude.{◌≡◌, List, ℕ, Result}
use Rattle.refusal.specs.declared.Refusal.{Refusal}
use Rattle.image_rules.specs.declared.WordOffset.{WordOffset}
use Rattle.image_rules.specs.declared.BytePlace.{BytePlace}
use Rattle.image_rules.specs.declared.Node.{Node}
use Rattle.image_rules.specs.declared.Text.{Text}
use Rattle.image_rules.specs.Image.{place_of, byte_at, word_at, checksum_of, secondary_of, check_of}
use Rattle.image_rules.specs.Line.{line_of, Says}

abbrev pub PlaceOf : WordOffset → BytePlace → Type 0
PlaceOf w r = r.0 ≡ place_of w.0

-- the image's bytes are handed in
module _ (image : List ℕ) where
  abbrev pub ByteAt : BytePlace → ℕ → Type 0
  ByteAt at r = r ≡ byte_at image at.0

  abbrev pub WordAt : WordOffset → ℕ → Type 0
  WordAt w r = r ≡ word_at image w.0

  abbrev pub Checksum : ℕ → Type 0
  Checksum r = r ≡ checksum_of image

  abbrev pub Secondary : ℕ → Type 0
  Secondary r = r ≡ secondary_of image

  abbrev pub Check : Result Node Refusal → Type 0
  Check r = r ≡ check_of image

-- The line; the bytes past its length are free.
abbrev pub Line : Result Node Refusal → Text → Type 0
Line found r = Says (line_of found) r.len r.bytes

abbrev pub Judged : List ℕ → Text → Type 0
Judged image r = Says (line_of (check_of image)) r.len r.bytes
