-- Three and four puts, one behind the other.
-- Assumes nothing.
use Prim.Native.Nat.{ℕ, ◌+◌, ◌-◌, ◌≤◌}
use mathlib.Core.Path.{◌≡◌, ap, ◌∙◌}
use mathlib.Core.List.{List, ◌∷◌, ◌++◌, append_assoc}
use native.Mathlib.Omega.{arith}
use lib.ListN.{length, take, drop, length-append, length-drop}
use lib.Seq.{length-take-le}
use Rattle.catalogue_rules.specs.Field.{field, bytes_of}
use Rattle.catalogue_rules.specs.Archive.{address_in}
use Rattle.catalogue_rules.specs.Edit.{version_fields}
use Rattle.catalogue_rules.specs.Put.{put_at}
use Rattle.catalogue_rules.proofs.Chain.{both-put, version-length}

pub card-length : (image : List ℕ) → length image ≡ 128 → length (bytes_of (field 1 (address_in image) ∷ version_fields 1 image)) ≡ 145
unfolding bytes_of
card-length image e = omega (arith, version-length 1 image e)

module _ (area a b : List ℕ) {one two : ℕ} {first second : List ℕ} (n : one ≡ 0 + length a) (e : first ≡ put_at area 0 a) (m : two ≡ one + length b) (f : second ≡ put_at first one b) where
  pub three-put : (c : List ℕ) {third : List ℕ} → length a + (length b + length c) ≤ length area → third ≡ put_at second two c → third ≡ put_at area 0 (a ++ (b ++ c))
  three-put c fits g =
      let l : length (a ++ b) ≡ length a + length b = length-append a b in
      both-put area 0 (a ++ b) c {behind = two} (omega arith) (omega arith) (both-put area 0 a b (omega arith) n e f) g
      ∙ ap (put_at area 0) (append_assoc a b c)

  pub four_put : (c d : List ℕ) {three : ℕ} {third fourth : List ℕ} → length a + (length b + (length c + length d)) ≤ length area
      → three ≡ two + length c → third ≡ put_at second two c → fourth ≡ put_at third three d → fourth ≡ put_at area 0 (a ++ (b ++ (c ++ d)))
  four_put c d {three} fits k g h =
      let l : length (a ++ b) ≡ length a + length b = length-append a b in
      let s : length (a ++ (b ++ c)) ≡ length a + (length b + length c) = omega (arith, length-append a (b ++ c), length-append b c) in
      both-put area 0 (a ++ (b ++ c)) d {behind = three} (omega arith) (omega arith) (three-put c (omega arith) g) h
      ∙ ap (put_at area 0) (append_assoc a (b ++ c) d ∙ ap (λ (x : List ℕ). a ++ x) (append_assoc b c d))

-- The bytes from a place up to the count.
pub part_length : (file : List ℕ) (p : ℕ) → p + 5 ≤ length file → length (take (length file - 5 - p) (drop p file)) ≡ length file - 5 - p
part_length file p h = length-take-le (length file - 5 - p) (drop p file) (omega (arith, length-drop p file))
