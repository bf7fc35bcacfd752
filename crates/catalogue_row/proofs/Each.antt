-- The images of an archive, one at a time.
-- Assumes nothing.
use Prim.Native.Nat.{ℕ, zero, suc, ◌/◌}
use mathlib.Core.Path.{◌≡◌, refl, sym, ap, ◌∙◌}
use mathlib.Core.Bool.{Bool, true, false, ◌||◌, false≢true}
use mathlib.Core.List.{List, [], ◌∷◌}
use borrow.Author.Tests.{eq-eqb, eqb-true}
use lib.ListN.{length, take, drop}
use native.Mathlib.Omega.{arith}
use lib.Dec.{eqb}
use Rattle.std.specs.List.{list_any}
use Rattle.std.specs.Simd.{first_chunks}
use Rattle.refusal.specs.declared.Refusal.{Refusal}
use Rattle.image_rules.specs.Image.{check_of}
use Rattle.catalogue_rules.specs.Turns.{address_of}
use Rattle.catalogue_rules.specs.Reading.{is_among, any_twice}
use Rattle.catalogue_rules.specs.Archive.{address_in, addresses_in}
use Rattle.catalogue_rules.specs.Edit.{images_within, images_in, is_for, any_for}
use Rattle.catalogue_rules.proofs.Bools.{or_yes, or_no}

-- The library cuts an archive into the same images.
chunks_within : (n : ℕ) (row : List ℕ) → first_chunks 128 n row ≡ images_within n row
unfolding images_within
chunks_within zero row = refl
chunks_within (suc n) row = ap (λ (images : List (List ℕ)). take 128 row ∷ images) (chunks_within n (drop 128 row))

pub chunks_are : (row : List ℕ) → first_chunks 128 (length row / 128) row ≡ images_in row
unfolding images_in
chunks_are row = chunks_within (length row / 128) row

-- An address is listed if an image has it.
any_listed : (a : ℕ) (images : List (List ℕ)) → list_any (λ image. eqb (address_of (address_in image)) a) images ≡ is_among a (addresses_in images)
unfolding addresses_in
any_listed a [] = refl
any_listed a (image ∷ images) = ap (λ (b : Bool). eqb (address_of (address_in image)) a || b) (any_listed a images)

-- A reason holds of the archive if it holds of an image.
pub any_refused : (why : Refusal) (images : List (List ℕ)) → list_any (λ image. is_for why (check_of image)) images ≡ any_for why images
unfolding any_for
any_refused why [] = refl
any_refused why (image ∷ images) = ap (λ (b : Bool). is_for why (check_of image) || b) (any_refused why images)

-- An image is passed, with the others behind it.
module _ {images rest : List (List ℕ)} {image : List ℕ} (are : images ≡ image ∷ rest) {a : ℕ} (is : a ≡ address_of (address_in image))
    {t : Bool} (again : t ≡ list_any (λ other. eqb (address_of (address_in other)) a) rest) {whole : Bool} (inv : any_twice (addresses_in images) ≡ whole) where
  step : t || any_twice (addresses_in rest) ≡ whole
  unfolding addresses_in any_twice
  step =
      ap (λ (b : Bool). b || any_twice (addresses_in rest)) (again ∙ any_listed a rest ∙ ap (λ (n : ℕ). is_among n (addresses_in rest)) is)
      ∙ ap (λ (l : List (List ℕ)). any_twice (addresses_in l)) (sym are)
      ∙ inv

  pub twice_here : t ≡ true → true ≡ whole
  twice_here e = sym (or_yes t _ e) ∙ step

  pub twice_later : t ≡ false → any_twice (addresses_in rest) ≡ whole
  twice_later e = sym (or_no t _ e) ∙ step

pub none_twice : (images : List (List ℕ)) {whole : Bool} → length images ≡ 0 → any_twice (addresses_in images) ≡ whole → false ≡ whole
unfolding addresses_in any_twice
none_twice [] e inv = inv
none_twice (image ∷ images) e inv = absurd (omega arith)

-- Whether bytes are left behind the last whole image.
module _ {empty : Bool} {left n : ℕ} (is : empty ≡ eqb left 0) (many : left ≡ n) where
  pub none_left : empty ≡ true → n ≡ 0
  none_left e = sym many ∙ eqb-true left 0 (sym is ∙ e)

  pub some_left : empty ≡ false → n ≡ 0 → ⊥
  some_left e z = false≢true (sym e ∙ is ∙ eq-eqb left 0 (many ∙ z))
