-- Four parts of a file and a count, put one behind the other.
-- Assumes nothing.
use Prim.Native.Nat.{ℕ, ◌+◌, ◌-◌, ◌≤◌}
use mathlib.Core.Path.{◌≡◌, refl, ap, ◌∙◌}
use mathlib.Core.List.{List, [], ◌∷◌, ◌++◌, append_assoc}
use native.Mathlib.Omega.{arith}
use lib.ListN.{length, take, length-append, length-take, length-drop}
use Rattle.catalogue_rules.specs.Field.{bytes_of}
use Rattle.catalogue_rules.specs.Reading.{count_field}
use Rattle.catalogue_rules.specs.Put.{put_at}
use Rattle.catalogue_rules.proofs.Chain.{both-put, put_front}
use Rattle.catalogue_drop.specs.Around.{between, around, begins, InOrder}

pub length-between : (from to : ℕ) (file : List ℕ) → to ≤ length file → length (between from to file) ≡ to - from
length-between from to file h = simp (length-take, length-drop) (omega arith)

count_long : (n : ℕ) → length (bytes_of (count_field n ∷ [])) ≡ 5
unfolding bytes_of
count_long n = refl

-- The parts lie in the file, so that their lengths are what their places say.
module _ (file : List ℕ) (kept at number image left : ℕ) (o : InOrder file kept at number image left) where
  first-long : length (between 0 kept file) ≡ kept - 0
  first-long = let k : kept ≤ at = o.keeps in length-between 0 kept file (omega arith)

  second-long : length (between at number file) ≡ number - at
  second-long = length-between at number file (omega arith)

  third_long : length (between (number + 5) image file) ≡ image - (number + 5)
  third_long = length-between (number + 5) image file (omega arith)

  fourth_long : length (between (image + 131) (length file - 5) file) ≡ length file - 5 - (image + 131)
  fourth_long = length-between (image + 131) (length file - 5) file (omega arith)

  -- What stands before the number, between the number and the image, and behind the image.
  pub copied : (area : List ℕ) → length file ≤ length area → {a b c d e : List ℕ} {one two three four : ℕ}
      → one ≡ 0 + length (take kept file) → a ≡ put_at area 0 (take kept file)
      → two ≡ one + length (between at number file) → b ≡ put_at a one (between at number file)
      → three ≡ two + length (between (number + 5) image file) → c ≡ put_at b two (between (number + 5) image file)
      → four ≡ three + length (between (image + 131) (length file - 5) file) → d ≡ put_at c three (between (image + 131) (length file - 5) file)
      → e ≡ put_at d four (bytes_of (count_field left ∷ []))
      → (four + 5 ≡ length (around file kept at number image left)) × (e ≡ begins (around file kept at number image left) area)
  unfolding around
  copied area fits {a} {b} {c} {d} {e} {one} {two} {three} {four} n₁ p₁ n₂ p₂ n₃ p₃ n₄ p₄ p₅ =
      let x₁ : List ℕ = take kept file in
      let x₂ : List ℕ = between at number file in
      let x₃ : List ℕ = between (number + 5) image file in
      let x₄ : List ℕ = between (image + 131) (length file - 5) file in
      let x₅ : List ℕ = bytes_of (count_field left ∷ []) in
      let first : take kept file ≡ between 0 kept file = ap (λ (n : ℕ). take n file) (omega arith) in
      let l₁ : length x₁ ≡ kept - 0 = ap length first ∙ first-long in
      let l₂ : length x₂ ≡ number - at = second-long in
      let l₃ : length x₃ ≡ image - (number + 5) = third_long in
      let l₄ : length x₄ ≡ length file - 5 - (image + 131) = fourth_long in
      let l₅ : length x₅ ≡ 5 = count_long left in
      let m₂ : length (x₁ ++ x₂) ≡ length x₁ + length x₂ = length-append x₁ x₂ in
      let m₃ : length ((x₁ ++ x₂) ++ x₃) ≡ length (x₁ ++ x₂) + length x₃ = length-append (x₁ ++ x₂) x₃ in
      let m₄ : length (((x₁ ++ x₂) ++ x₃) ++ x₄) ≡ length ((x₁ ++ x₂) ++ x₃) + length x₄ = length-append ((x₁ ++ x₂) ++ x₃) x₄ in
      let m₅ : length ((((x₁ ++ x₂) ++ x₃) ++ x₄) ++ x₅) ≡ length (((x₁ ++ x₂) ++ x₃) ++ x₄) + length x₅ = length-append (((x₁ ++ x₂) ++ x₃) ++ x₄) x₅ in
      let q₂ : b ≡ put_at area 0 (x₁ ++ x₂) = both-put area 0 x₁ x₂ {behind = one} (omega arith) n₁ p₁ p₂ in
      let q₃ : c ≡ put_at area 0 ((x₁ ++ x₂) ++ x₃) = both-put area 0 (x₁ ++ x₂) x₃ {behind = two} (omega arith) (omega arith) q₂ p₃ in
      let q₄ : d ≡ put_at area 0 (((x₁ ++ x₂) ++ x₃) ++ x₄) = both-put area 0 ((x₁ ++ x₂) ++ x₃) x₄ {behind = three} (omega arith) (omega arith) q₃ p₄ in
      let q₅ : e ≡ put_at area 0 ((((x₁ ++ x₂) ++ x₃) ++ x₄) ++ x₅) = both-put area 0 (((x₁ ++ x₂) ++ x₃) ++ x₄) x₅ {behind = four} (omega arith) (omega arith) q₄ p₅ in
      let w : (((x₁ ++ x₂) ++ x₃) ++ x₄) ++ x₅ ≡ around file kept at number image left =
      ap (λ (x : List ℕ). (((x ++ x₂) ++ x₃) ++ x₄) ++ x₅) first ∙ simp append_assoc in
      (omega arith ∙ ap length w, q₅ ∙ put_front area ((((x₁ ++ x₂) ++ x₃) ++ x₄) ++ x₅) ∙ ap (λ (l : List ℕ). begins l area) w)
