-- What the checksums are good for: the check notices a change of any single byte outside words 18h to 1Fh.
-- It is a theorem over the definitions of `Image` alone (`noticed`, in proofs/Noticed.antt).
-- Words 18h to 1Fh are in no checksum. A change of several bytes can go unnoticed: the same bits changed in two bytes
-- of one list cancel in the exclusive-or, as where the two bytes of a word are exchanged.
-- Assumes nothing.
use Rattle.std.specs.Prelude.{ℕ, ◌/◌, ◌<◌, ◌≡◌, Bool, true, false, List, set, Result, Ok, Err}
use Rattle.refusal.specs.declared.Refusal.{Refusal}
use Rattle.image_rules.specs.declared.Node.{Node}
use Rattle.image_rules.specs.Image.{byte_at, span, is_among, check_of}

abbrev pub is_sound : Result Node Refusal → Bool
is_sound (Ok node) = true
is_sound (Err why) = false

-- Every element is a byte.
abbrev pub Bytes : List ℕ → Type 0
Bytes image = (place : ℕ) → byte_at image place < 256

-- An image that is sound, and still sound with `value` at a place outside words 18h to 1Fh, had that value there.
abbrev pub OneByteNoticed : Type 0
OneByteNoticed =
    (image : List ℕ) (place value : ℕ) → Bytes image → value < 256
    → place < 128 → is_among (place / 2) (span 0x18 0x1F) ≡ false
    → is_sound (check_of image) ≡ true → is_sound (check_of (set image place value)) ≡ true
    → byte_at image place ≡ value
