-- Pieces of a file: the bytes between two places, and the fields from a place on.
-- Assumes nothing.
use Prim.Native.Nat.{ℕ, ◌+◌, ◌-◌}
use mathlib.Core.Path.{◌≡◌, refl, ap, ap₂, ◌∙◌}
use mathlib.Core.List.{List, [], ◌∷◌, ◌++◌, append_assoc}
use native.Mathlib.Omega.{arith}
use lib.ListN.{length, take, drop, length-append}
use lib.Seq.{take_at, drop_at}
use Rattle.catalogue_rules.specs.Field.{Field, bytes_of, fields_of}
use Rattle.catalogue_rules.proofs.Append.{bytes-append}
use Rattle.catalogue_rules.specs.Reading.{count_field}
use Rattle.catalogue_rules.specs.RoundTrip.{Sizes}
use Rattle.catalogue_rules.proofs.WrittenBack.{fields_written}
use Rattle.catalogue_drop.specs.Around.{between, around}

sizes-behind : (xs ys : List Field) → Sizes (xs ++ ys) → Sizes ys
unfolding Sizes
sizes-behind [] ys s = s
sizes-behind (x ∷ xs) ys s = sizes-behind xs ys s.1

-- From behind some fields on, the fields are the others.
pub fields_behind : (xs ys : List Field) (file : List ℕ) (at : ℕ) → Sizes (xs ++ ys) → file ≡ bytes_of (xs ++ ys) → at ≡ length (bytes_of xs)
    → fields_of (drop at file) ≡ ys
fields_behind xs ys file at s e p =
    ap₂ (λ (n : ℕ) (l : List ℕ). fields_of (drop n l)) p (e ∙ bytes-append xs ys)
    ∙ ap fields_of (drop_at (bytes_of xs) (bytes_of ys) (length (bytes_of xs)) refl)
    ∙ fields_written ys (sizes-behind xs ys s)

-- Up to there, the bytes are theirs.
pub bytes-before : (xs ys : List Field) (file : List ℕ) (at : ℕ) → file ≡ bytes_of (xs ++ ys) → at ≡ length (bytes_of xs) → take at file ≡ bytes_of xs
bytes-before xs ys file at e p =
    ap₂ take p (e ∙ bytes-append xs ys) ∙ take_at (bytes_of xs) (bytes_of ys) (length (bytes_of xs)) refl

-- What stands behind some bytes and before others.
in_between : {file : List ℕ} (x y z : List ℕ) (from to : ℕ) → file ≡ x ++ (y ++ z) → length x ≡ from → from + length y ≡ to → between from to file ≡ y
in_between x y z from to e f t =
    ap (between from to) e ∙ ap (take (to - from)) (drop_at x (y ++ z) from f) ∙ take_at y z (to - from) (omega arith)

joined : {a b c d e f g h : List ℕ} (t : List ℕ) → a ≡ b → c ≡ d → e ≡ f → g ≡ h → a ++ (c ++ (e ++ (g ++ t))) ≡ b ++ (d ++ (f ++ (h ++ t)))
joined t p q r s = cc

-- A file in pieces: all before a card, its address, what stands before the number, the number, what stands before the image,
-- the image, the rest, the count.
module _ (all address one number two image rest count : List ℕ)
    (nine : length address ≡ 9) (five : length number ≡ 5) (whole : length image ≡ 131) (last : length count ≡ 5) where
  abbrev pub pieces : List ℕ
  pieces = all ++ (address ++ (one ++ (number ++ (two ++ (image ++ (rest ++ count))))))

  pub long : length pieces ≡ length all + 9 + length one + 5 + length two + 131 + length rest + 5
  long = simp length-append (omega arith)

  pub left_over : (file : List ℕ) (kept left : ℕ) (before : List ℕ) → file ≡ pieces → take kept file ≡ before
      → around file kept (length all + 9) (length all + 9 + length one) (length all + 9 + length one + (5 + length two)) left
      ≡ before ++ (one ++ (two ++ (rest ++ bytes_of (count_field left ∷ []))))
  unfolding around
  left_over file kept left before e k =
      let n : length file ≡ length all + 9 + length one + 5 + length two + 131 + length rest + 5 = ap length e ∙ long in
      let e₁ : file ≡ (all ++ address) ++ (one ++ (number ++ (two ++ (image ++ (rest ++ count))))) = e ∙ simp append_assoc in
      let e₂ : file ≡ (all ++ (address ++ (one ++ number))) ++ (two ++ (image ++ (rest ++ count))) = e ∙ simp append_assoc in
      let e₃ : file ≡ (all ++ (address ++ (one ++ (number ++ (two ++ image))))) ++ (rest ++ count) = e ∙ simp append_assoc in
      let start : ℕ = length all + 9 in
      let place : ℕ = start + length one in
      let behind : ℕ = place + (5 + length two) in
      let z : kept - 0 ≡ kept = omega arith in
      joined (bytes_of (count_field left ∷ [])) (ap (λ (n : ℕ). take n file) z ∙ k)
      (in_between (all ++ address) one (number ++ (two ++ (image ++ (rest ++ count)))) start place e₁ (simp length-append (omega arith)) refl)
      (in_between (all ++ (address ++ (one ++ number))) two (image ++ (rest ++ count)) (place + 5) behind e₂ (simp length-append (omega arith)) (omega arith))
      (in_between (all ++ (address ++ (one ++ (number ++ (two ++ image))))) rest count (behind + 131) (length file - 5) e₃ (simp length-append (omega arith)) (omega arith))
