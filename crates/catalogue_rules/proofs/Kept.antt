-- Unknown fields stay: only fields with tags 1 to 3 are put in or taken out.
-- Assumes nothing.
use Prim.Native.Nat.{ℕ}
use mathlib.Core.Path.{◌≡◌, refl, sym, ap, ◌∙◌}
use mathlib.Core.Bool.{Bool, true, false, cond}
use mathlib.Core.List.{List, [], ◌∷◌, ◌++◌}
use lib.Dec.{eqb}
use Rattle.catalogue_rules.specs.Field.{Field, field}
use Rattle.catalogue_rules.specs.Turns.{address_of}
use Rattle.catalogue_rules.specs.Cards.{versions_from}
use Rattle.catalogue_rules.specs.Edit.{version_fields, is_card, at_cards_end, with_version, without_image, without_oldest, leaves, without_version}
use Rattle.catalogue_rules.proofs.Bools.{and_left, or_yes, or_second}
use Rattle.catalogue_rules.specs.Unknown.{is_known, unknown_of, UnknownFieldsStay}

-- A field before two lists with the same unknown fields.
before : (f : Field) (x y : List Field) → unknown_of x ≡ unknown_of y → unknown_of (f ∷ x) ≡ unknown_of (f ∷ y)
unfolding unknown_of
before f x y e = ap (λ (l : List Field). cond (is_known f) l (f ∷ l)) e

-- A known field counts for nothing.
known : (f : Field) (x : List Field) → is_known f ≡ true → unknown_of x ≡ unknown_of (f ∷ x)
unfolding unknown_of
known f x e = ap (λ (b : Bool). cond b (unknown_of x) (f ∷ unknown_of x)) (sym e)

either : (b : Bool) (x y z : List Field) → (b ≡ true → unknown_of x ≡ unknown_of z) → (b ≡ false → unknown_of y ≡ unknown_of z) → unknown_of (cond b x y) ≡ unknown_of z
either true x y z p q = p refl
either false x y z p q = q refl

module _ (n : ℕ) (image : List ℕ) where
  new_before : (x : List Field) → unknown_of (version_fields n image ++ x) ≡ unknown_of x
  unfolding unknown_of
  new_before x = refl

  at_end : (fs : List Field) → unknown_of (at_cards_end (version_fields n image) fs) ≡ unknown_of fs
  unfolding at_cards_end
  at_end [] = new_before []
  at_end (f ∷ fs) =
      either (eqb f.tag 1) (version_fields n image ++ (f ∷ fs)) (f ∷ at_cards_end (version_fields n image) fs) (f ∷ fs)
      (λ e. new_before (f ∷ fs)) (λ e. before f (at_cards_end (version_fields n image) fs) fs (at_end fs))

  added-stay : (a : ℕ) (fs : List Field) → unknown_of (with_version a (version_fields n image) fs) ≡ unknown_of fs
  unfolding with_version
  added-stay a [] = refl
  added-stay a (f ∷ fs) =
      either (is_card a f) (f ∷ at_cards_end (version_fields n image) fs) (f ∷ with_version a (version_fields n image) fs) (f ∷ fs)
      (λ e. before f (at_cards_end (version_fields n image) fs) fs (at_end fs)) (λ e. before f (with_version a (version_fields n image) fs) fs (added-stay a fs))

  card-stay : (address : List ℕ) (fs : List Field) → unknown_of (fs ++ (field 1 address ∷ version_fields n image)) ≡ unknown_of fs
  unfolding unknown_of
  card-stay address [] = refl
  card-stay address (f ∷ fs) = ap (λ (l : List Field). cond (is_known f) l (f ∷ l)) (card-stay address fs)

image-stay : (fs : List Field) → unknown_of (without_image fs) ≡ unknown_of fs
unfolding without_image
image-stay [] = refl
image-stay (f ∷ fs) =
    either (eqb f.tag 3) fs (f ∷ without_image fs) (f ∷ fs)
    (λ e. known f fs (or_second (eqb f.tag 1) _ (or_second (eqb f.tag 2) (eqb f.tag 3) e))) (λ e. before f (without_image fs) fs (image-stay fs))

oldest-stay : (fs : List Field) → unknown_of (without_oldest fs) ≡ unknown_of fs
unfolding without_oldest
oldest-stay [] = refl
oldest-stay (f ∷ fs) =
    either (eqb f.tag 2) (without_image fs) (f ∷ without_oldest fs) (f ∷ fs)
    (λ e. image-stay fs ∙ known f fs (or_second (eqb f.tag 1) _ (or_yes (eqb f.tag 2) (eqb f.tag 3) e))) (λ e. before f (without_oldest fs) fs (oldest-stay fs))

dropped-stay : (a : ℕ) (fs : List Field) → unknown_of (without_version a fs) ≡ unknown_of fs
unfolding without_version
dropped-stay a [] = refl
dropped-stay a (f ∷ fs) =
    either (is_card a f) (cond (leaves (versions_from 0 fs)) (without_oldest fs) (f ∷ without_oldest fs)) (f ∷ without_version a fs) (f ∷ fs)
    (λ e.
    either (leaves (versions_from 0 fs)) (without_oldest fs) (f ∷ without_oldest fs) (f ∷ fs)
    (λ l. oldest-stay fs ∙ known f fs (or_yes (eqb f.tag 1) _ (and_left (eqb f.tag 1) (eqb (address_of f.value) a) e)))
    (λ l. before f (without_oldest fs) fs (oldest-stay fs)))
    (λ e. before f (without_version a fs) fs (dropped-stay a fs))

pub unknown_fields_stay_lem : UnknownFieldsStay
unknown_fields_stay_lem a n address image fs =
    record {
      version_added = added-stay n image a fs;
      card_added = card-stay n image address fs;
      oldest_dropped = dropped-stay a fs;
    }
