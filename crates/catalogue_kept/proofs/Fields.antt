-- How a card's versions and a file's addresses are read off one field before others.
-- Assumes nothing.
use Prim.Native.Nat.{ℕ}
use mathlib.Core.Path.{◌≡◌, refl, sym, ap, ap₂, ◌∙◌}
use mathlib.Core.Bool.{Bool, true, false, cond, ◌&&◌, ◌||◌, and-false}
use mathlib.Core.List.{List, [], ◌∷◌}
use borrow.Author.Tests.{eqb-true, ne_eqb}
use lib.Dec.{eqb}
use Rattle.catalogue_rules.specs.Field.{Field, number_at}
use Rattle.catalogue_rules.specs.Turns.{address_of}
use Rattle.catalogue_rules.specs.Reading.{addresses_of, is_among}
use Rattle.catalogue_rules.specs.Cards.{Version, versions_from, versions_at}
use Rattle.catalogue_rules.proofs.Bools.{and_right, or_left, or_right, yes_if, no-if}
use Rattle.catalogue_rules.proofs.Seen.{among_is}
use Rattle.catalogue_rules.specs.Edit.{is_card}

abbrev pub version : ℕ → List ℕ → Version
version n image = record { number = n; image = image }

two_tests : {A : Type 0} (one here : Bool) (x y : A) → cond one (cond here x y) y ≡ cond (one && here) x y
two_tests true here x y = refl
two_tests false here x y = refl

-- No card of one address is a card of another.
pub another : (a b : ℕ) (f : Field) → (b ≡ a → ⊥) → is_card a f ≡ true → is_card b f ≡ false
another a b f d e =
    let h : address_of f.value ≡ a = eqb-true (address_of f.value) a (and_right (eqb f.tag 1) (eqb (address_of f.value) a) e) in
    ap (λ (t : Bool). eqb f.tag 1 && t) (ne_eqb (address_of f.value) b (λ g. d (cc))) ∙ and-false (eqb f.tag 1)

module _ (f : Field) (fs : List Field) where
  -- The next card ends a card's versions.
  pub stop : (n : ℕ) → eqb f.tag 1 ≡ true → versions_from n (f ∷ fs) ≡ []
  unfolding versions_from
  stop n e = yes_if (eqb f.tag 1) _ _ e

  at_is_lem : (a : ℕ) → versions_at a (f ∷ fs) ≡ cond (is_card a f) (versions_from 0 fs) (versions_at a fs)
  unfolding versions_at
  at_is_lem a = two_tests (eqb f.tag 1) (eqb (address_of f.value) a) (versions_from 0 fs) (versions_at a fs)

  pub at_card : (a : ℕ) → is_card a f ≡ true → versions_at a (f ∷ fs) ≡ versions_from 0 fs
  at_card a e = at_is_lem a ∙ yes_if (is_card a f) _ _ e

  pub at_past : (a : ℕ) → is_card a f ≡ false → versions_at a (f ∷ fs) ≡ versions_at a fs
  at_past a e = at_is_lem a ∙ no-if (is_card a f) _ _ e

  pub among_past : (a : ℕ) → is_card a f ≡ false → is_among a (addresses_of (f ∷ fs)) ≡ is_among a (addresses_of fs)
  among_past a e = among_is f fs a ∙ ap (λ (t : Bool). t || is_among a (addresses_of fs)) e

-- Two rests that show the same, behind the same field.
module _ (f : Field) (x y : List Field) where
  pub from-behind : (n : ℕ) → ((m : ℕ) → versions_from m x ≡ versions_from m y) → versions_from n (f ∷ x) ≡ versions_from n (f ∷ y)
  unfolding versions_from
  from-behind n h =
      ap₂ (λ (p q : List Version). cond (eqb f.tag 1) [] (cond (eqb f.tag 2) p (cond (eqb f.tag 3) (version n f.value ∷ q) q))) (h (number_at f.value 0)) (h n)

  pub at_behind : (a : ℕ) → versions_from 0 x ≡ versions_from 0 y → versions_at a x ≡ versions_at a y → versions_at a (f ∷ x) ≡ versions_at a (f ∷ y)
  unfolding versions_at
  at_behind a g h =
      ap₂ (λ (p q : List Version). cond (eqb f.tag 1) (cond (eqb (address_of f.value) a) p q) q) g h

  pub among_behind : (a : ℕ) → is_among a (addresses_of x) ≡ is_among a (addresses_of y) → is_among a (addresses_of (f ∷ x)) ≡ is_among a (addresses_of (f ∷ y))
  among_behind a h = among_is f x a ∙ ap (λ (t : Bool). is_card a f || t) h ∙ sym (among_is f y a)

-- A card that is not listed has no versions.
pub none_at : (a : ℕ) (fs : List Field) → is_among a (addresses_of fs) ≡ false → versions_at a fs ≡ []
unfolding versions_at
none_at a [] e = refl
none_at a (f ∷ fs) e =
    let p : is_card a f || is_among a (addresses_of fs) ≡ false = sym (among_is f fs a) ∙ e in
    at_past f fs a (or_left (is_card a f) (is_among a (addresses_of fs)) p) ∙ none_at a fs (or_right (is_card a f) (is_among a (addresses_of fs)) p)
