-- An addition gives its card one version more, at the end, and leaves the versions of every other card as they were.
-- Assumes nothing.
use Prim.Native.Nat.{ℕ, ◌+◌, ◌*◌, ◌/◌, ◌%◌}
use mathlib.Core.Path.{◌≡◌, refl, sym, ap, ap₂, ◌∙◌}
use mathlib.Core.Bool.{Bool, true, false, cond, ◌||◌, or_assoc, or-true, or-false, false≢true}
use mathlib.Core.List.{List, [], ◌∷◌, ◌++◌}
use native.Mathlib.Omega.{arith}
use borrow.Author.Tests.{eq-eqb, ne_eqb}
use lib.Dec.{eqb}
use Rattle.bits.proofs.Tests.{of_test}
use Rattle.catalogue_rules.specs.Field.{Field, field, number_at}
use Rattle.catalogue_rules.specs.Turns.{address_of}
use Rattle.catalogue_rules.specs.Reading.{addresses_of, is_among}
use Rattle.catalogue_rules.specs.Cards.{Version, versions_from, versions_at}
use Rattle.catalogue_rules.proofs.Bools.{and_left, or_left, or_right, yes_if, no-if}
use Rattle.catalogue_rules.specs.Archive.{address_in}
use Rattle.catalogue_rules.specs.Edit.{is_card, whose, version_fields, at_cards_end, with_version, with_added, latest_number}
use Rattle.catalogue_kept.proofs.Parts.{addresses_append}
use Rattle.catalogue_kept.proofs.Versions.{version_addresses}
use Rattle.catalogue_rules.proofs.Seen.{among_is}
use Rattle.catalogue_kept.proofs.Fields.{version, another, stop, at_card, at_past, among_past, from-behind, at_behind, none_at}

-- A version's number, as it is written, is read again.
told-again : (n : ℕ) → n % 256 + 256 * (n / 256) ≡ n
told-again n = omega arith

step_more : (two three : Bool) (v w : Version) (p q : List Version)
    → cond two (p ++ (w ∷ [])) (cond three (v ∷ (q ++ (w ∷ []))) (q ++ (w ∷ []))) ≡ cond two p (cond three (v ∷ q) q) ++ (w ∷ [])
step_more true three v w p q = refl
step_more false true v w p q = refl
step_more false false v w p q = refl

is_one : (a : ℕ) (f : Field) → is_card a f ≡ true → eqb f.tag 1 ≡ true
is_one a f e = and_left (eqb f.tag 1) (eqb (address_of f.value) a) e

-- ---- a version more

module _ (n : ℕ) (bytes : List ℕ) where
  -- Behind any fields of the card.
  before-next : (m : ℕ) (f : Field) (fs : List Field) → eqb f.tag 1 ≡ true → versions_from m (version_fields n bytes ++ (f ∷ fs)) ≡ version n bytes ∷ []
  unfolding versions_from
  before-next m f fs e = ap₂ (λ (k : ℕ) (vs : List Version). version k bytes ∷ vs) (told-again n) (stop f fs (n % 256 + 256 * (n / 256)) e)

  pass-one : (m : ℕ) (f : Field) (fs : List Field) → eqb f.tag 1 ≡ false
      → ((k : ℕ) → versions_from k (at_cards_end (version_fields n bytes) fs) ≡ versions_from k fs ++ (version n bytes ∷ []))
      → versions_from m (f ∷ at_cards_end (version_fields n bytes) fs) ≡ versions_from m (f ∷ fs) ++ (version n bytes ∷ [])
  unfolding versions_from
  pass-one m f fs e h =
      no-if (eqb f.tag 1) _ _ e
      ∙ ap₂ (λ (p q : List Version). cond (eqb f.tag 2) p (cond (eqb f.tag 3) (version m f.value ∷ q) q)) (h (number_at f.value 0)) (h m)
      ∙ step_more (eqb f.tag 2) (eqb f.tag 3) (version m f.value) (version n bytes) (versions_from (number_at f.value 0) fs) (versions_from m fs)
      ∙ ap (λ (vs : List Version). vs ++ (version n bytes ∷ [])) (sym (no-if (eqb f.tag 1) _ _ e))

  end_more : (m : ℕ) (fs : List Field) → versions_from m (at_cards_end (version_fields n bytes) fs) ≡ versions_from m fs ++ (version n bytes ∷ [])
  unfolding at_cards_end versions_from
  end_more m [] = ap (λ (k : ℕ). version k bytes ∷ []) (told-again n)
  end_more m (f ∷ fs) =
      of_test (λ (l : List Field). versions_from m l ≡ versions_from m (f ∷ fs) ++ (version n bytes ∷ [])) (eqb f.tag 1)
      (λ e. before-next m f fs e ∙ ap (λ (vs : List Version). vs ++ (version n bytes ∷ [])) (sym (stop f fs m e)))
      (λ e. pass-one m f fs e (λ k. end_more k fs))

  end-others : (b : ℕ) (fs : List Field) → versions_at b (at_cards_end (version_fields n bytes) fs) ≡ versions_at b fs
  unfolding at_cards_end versions_at
  end-others b [] = refl
  end-others b (f ∷ fs) =
      of_test (λ (l : List Field). versions_at b l ≡ versions_at b (f ∷ fs)) (eqb f.tag 1)
      (λ e. refl)
      (λ e. no-if (eqb f.tag 1) _ _ e ∙ end-others b fs ∙ sym (no-if (eqb f.tag 1) _ _ e))

  -- The card itself.
  version_more : (a : ℕ) (fs : List Field) → is_among a (addresses_of fs) ≡ true → versions_at a (with_version a (version_fields n bytes) fs) ≡ versions_at a fs ++ (version n bytes ∷ [])
  unfolding with_version addresses_of
  version_more a [] l = absurd (false≢true l)
  version_more a (f ∷ fs) l =
      of_test (λ (x : List Field). versions_at a x ≡ versions_at a (f ∷ fs) ++ (version n bytes ∷ [])) (is_card a f)
      (λ e.
      at_card f (at_cards_end (version_fields n bytes) fs) a e ∙ end_more 0 fs ∙ ap (λ (vs : List Version). vs ++ (version n bytes ∷ [])) (sym (at_card f fs a e)))
      (λ e.
      at_past f (with_version a (version_fields n bytes) fs) a e
      ∙ version_more a fs (sym (among_past f fs a e) ∙ l)
      ∙ ap (λ (vs : List Version). vs ++ (version n bytes ∷ [])) (sym (at_past f fs a e)))

  -- Another card.
  version-from : (a m : ℕ) (fs : List Field) → versions_from m (with_version a (version_fields n bytes) fs) ≡ versions_from m fs
  unfolding with_version
  version-from a m [] = refl
  version-from a m (f ∷ fs) =
      of_test (λ (x : List Field). versions_from m x ≡ versions_from m (f ∷ fs)) (is_card a f)
      (λ e. stop f (at_cards_end (version_fields n bytes) fs) m (is_one a f e) ∙ sym (stop f fs m (is_one a f e)))
      (λ e. from-behind f (with_version a (version_fields n bytes) fs) fs m (λ k. version-from a k fs))

  version-others : (a b : ℕ) (fs : List Field) → (b ≡ a → ⊥) → versions_at b (with_version a (version_fields n bytes) fs) ≡ versions_at b fs
  unfolding with_version
  version-others a b [] d = refl
  version-others a b (f ∷ fs) d =
      of_test (λ (x : List Field). versions_at b x ≡ versions_at b (f ∷ fs)) (is_card a f)
      (λ e.
      at_past f (at_cards_end (version_fields n bytes) fs) b (another a b f d e) ∙ end-others b fs ∙ sym (at_past f fs b (another a b f d e)))
      (λ e. at_behind f (with_version a (version_fields n bytes) fs) fs b (version-from a 0 fs) (version-others a b fs d))

-- ---- a card more

module _ (address bytes : List ℕ) where
  card-from : (m : ℕ) (fs : List Field) → versions_from m (fs ++ (field 1 address ∷ version_fields 1 bytes)) ≡ versions_from m fs
  unfolding versions_from
  card-from m [] = refl
  card-from m (f ∷ fs) = from-behind f (fs ++ (field 1 address ∷ version_fields 1 bytes)) fs m (λ k. card-from k fs)

  card_more : (a : ℕ) (fs : List Field) → a ≡ address_of address → is_among a (addresses_of fs) ≡ false
      → versions_at a (fs ++ (field 1 address ∷ version_fields 1 bytes)) ≡ version 1 bytes ∷ []
  unfolding versions_at versions_from
  card_more a [] s l = yes_if (eqb (address_of address) a) _ _ (eq-eqb (address_of address) a (sym s))
  card_more a (f ∷ fs) s l =
      let p : is_card a f || is_among a (addresses_of fs) ≡ false = sym (among_is f fs a) ∙ l in
      at_past f (fs ++ (field 1 address ∷ version_fields 1 bytes)) a (or_left (is_card a f) (is_among a (addresses_of fs)) p)
      ∙ card_more a fs s (or_right (is_card a f) (is_among a (addresses_of fs)) p)

  card-others : (b : ℕ) (fs : List Field) → (b ≡ address_of address → ⊥) → versions_at b (fs ++ (field 1 address ∷ version_fields 1 bytes)) ≡ versions_at b fs
  unfolding versions_at
  card-others b [] d = no-if (eqb (address_of address) b) _ _ (ne_eqb (address_of address) b (λ e. d (sym e)))
  card-others b (f ∷ fs) d = at_behind f (fs ++ (field 1 address ∷ version_fields 1 bytes)) fs b (card-from 0 fs) (card-others b fs d)

-- ---- the addition

among_end : (a b : ℕ) (l : List ℕ) → is_among a (l ++ (b ∷ [])) ≡ is_among a l || eqb b a
among_end a b [] = or-false (eqb b a)
among_end a b (c ∷ l) = ap (λ (t : Bool). eqb c a || t) (among_end a b l) ∙ sym (or_assoc (eqb c a) (is_among a l) (eqb b a))

module _ (image : List ℕ) (fs : List Field) where
  card_among : (b : ℕ) → is_among b (addresses_of (fs ++ (field 1 (address_in image) ∷ version_fields 1 image))) ≡ is_among b (addresses_of fs) || eqb (whose image) b
  unfolding addresses_of
  card_among b = ap (is_among b) (addresses_append fs (field 1 (address_in image) ∷ version_fields 1 image)) ∙ among_end b (whose image) (addresses_of fs)

  pub added_more : versions_at (whose image) (with_added image fs)
      ≡ versions_at (whose image) fs ++ (version (latest_number (versions_at (whose image) fs) + 1) image ∷ [])
  unfolding with_added latest_number
  added_more =
      of_test (λ (x : List Field). versions_at (whose image) x ≡ versions_at (whose image) fs ++ (version (latest_number (versions_at (whose image) fs) + 1) image ∷ []))
      (is_among (whose image) (addresses_of fs))
      (λ e. version_more (latest_number (versions_at (whose image) fs) + 1) image (whose image) fs e)
      (λ e.
      card_more (address_in image) image (whose image) fs refl e
      ∙ ap (λ (vs : List Version). vs ++ (version (latest_number vs + 1) image ∷ [])) (sym (none_at (whose image) fs e)))

  pub added-others : (b : ℕ) → (b ≡ whose image → ⊥) → versions_at b (with_added image fs) ≡ versions_at b fs
  unfolding with_added
  added-others b d =
      of_test (λ (x : List Field). versions_at b x ≡ versions_at b fs) (is_among (whose image) (addresses_of fs))
      (λ e. version-others (latest_number (versions_at (whose image) fs) + 1) image (whose image) b fs d)
      (λ e. card-others (address_in image) image b fs d)

  pub added-listed : is_among (whose image) (addresses_of (with_added image fs)) ≡ true
  unfolding with_added
  added-listed =
      of_test (λ (x : List Field). is_among (whose image) (addresses_of x) ≡ true) (is_among (whose image) (addresses_of fs))
      (λ e. ap (is_among (whose image)) (version_addresses (latest_number (versions_at (whose image) fs) + 1) image (whose image) fs) ∙ e)
      (λ e.
      card_among (whose image)
      ∙ ap (λ (t : Bool). is_among (whose image) (addresses_of fs) || t) (eq-eqb (whose image) (whose image) refl)
      ∙ or-true (is_among (whose image) (addresses_of fs)))

  pub added-lists : (b : ℕ) → (b ≡ whose image → ⊥) → is_among b (addresses_of (with_added image fs)) ≡ is_among b (addresses_of fs)
  unfolding with_added
  added-lists b d =
      of_test (λ (x : List Field). is_among b (addresses_of x) ≡ is_among b (addresses_of fs)) (is_among (whose image) (addresses_of fs))
      (λ e. ap (is_among b) (version_addresses (latest_number (versions_at (whose image) fs) + 1) image (whose image) fs))
      (λ e.
      card_among b
      ∙ ap (λ (t : Bool). is_among b (addresses_of fs) || t) (ne_eqb (whose image) b (λ h. d (sym h)))
      ∙ or-false (is_among b (addresses_of fs)))
