-- A version more: it comes in turn behind a card with fewer than eight, whose latest number is below the new one.
-- Assumes nothing.
use Prim.Native.Nat.{ℕ, ◌+◌, ◌/◌, ◌%◌, ◌≤◌, ◌<◌}
use mathlib.Core.Path.{◌≡◌, refl, sym, ap, subst, ◌∙◌}
use mathlib.Core.Bool.{Bool, true, false, cond, ◌&&◌, false≢true}
use mathlib.Core.List.{List, [], ◌∷◌, ◌++◌}
use native.Mathlib.Omega.{arith}
use lib.ListN.{length}
use lib.Dec.{eqb}
use Rattle.bits.proofs.Tests.{of_test}
use Rattle.catalogue_rules.specs.Field.{Field, field, number_at}
use Rattle.catalogue_rules.specs.declared.Turn.{Turn}
use Rattle.catalogue_rules.specs.declared.Turn.TheVariants.{Begun, Addressed, Numbered, Imaged, Damaged}
use Rattle.catalogue_rules.specs.Turns.{address_of, after_address}
use Rattle.catalogue_rules.specs.Reading.{addresses_of}
use Rattle.catalogue_rules.specs.Cards.{Version, versions_from, versions_at}
use Rattle.catalogue_rules.specs.Edit.{version_fields, is_card, at_cards_end, with_version, latest_number}
use Rattle.catalogue_rules.proofs.Bools.{no-if}
use Rattle.catalogue_rules.proofs.Versions.{latest_from, latest-any}
use Rattle.catalogue_kept.proofs.Told.{Other, Told, ends, other, card, first, next, image, no-card, may_begin}
use Rattle.catalogue_kept.proofs.Parts.{same-behind}

-- ---- unknown fields are passed

pub other_versions : (n : ℕ) (f : Field) (fs : List Field) → Other f → versions_from n (f ∷ fs) ≡ versions_from n fs
unfolding versions_from
other_versions n f fs o = no-if (eqb f.tag 1) _ _ o.one ∙ no-if (eqb f.tag 2) _ _ o.two ∙ no-if (eqb f.tag 3) _ _ o.three

pub other_at : (a : ℕ) (f : Field) (fs : List Field) → Other f → versions_at a (f ∷ fs) ≡ versions_at a fs
unfolding versions_at
other_at a f fs o = no-if (eqb f.tag 1) _ _ o.one

pub not-card : (a : ℕ) (f : Field) → Other f → is_card a f ≡ false
not-card a f o = ap (λ (b : Bool). b && eqb (address_of f.value) a) o.one

-- ---- the latest number

-- Behind a number there is an image, so that its number counts.
numbered : {nth n : ℕ} {fs : List Field} (m k : ℕ) → Told (Numbered nth n) fs → latest_from m (versions_from n fs) ≡ latest_from k (versions_from n fs)
unfolding latest_from versions_from
numbered m k (ends e) = absurd (false≢true e)
numbered {nth} {n} m k (other {f = f} {fs = fs} o t) =
    ap (latest_from m) (other_versions n f fs o) ∙ numbered m k t ∙ ap (latest_from k) (sym (other_versions n f fs o))
numbered m k (card a l t) = no-card a
numbered m k (image l t) = refl

-- ---- a version more

-- One more than the versions so far (none may come before the first card), and the number told last.
past_of : Turn → ℕ
past_of Begun = 9
past_of Addressed = 1
past_of (Numbered nth n) = nth
past_of (Imaged nth n) = nth + 1
past_of Damaged = 9

number_of : Turn → ℕ
number_of Begun = 0
number_of Addressed = 0
number_of (Numbered nth n) = n
number_of (Imaged nth n) = n
number_of Damaged = 0

module _ (new : ℕ) (bytes : List ℕ) (small : new < 65536) (long : length bytes ≡ 128) where
  pair_behind : (nth n : ℕ) (fs : List Field) → nth < 8 → n < new → Told (Imaged (nth + 1) new) fs → Told (Imaged nth n) (version_fields new bytes ++ fs)
  pair_behind nth n fs k m t =
      let e : new ≡ number_at (new % 256 ∷ new / 256 ∷ []) 0 = omega arith in
      next refl k (subst (λ (x : ℕ). n < x) e m) (subst (λ (x : ℕ). Told (Numbered (nth + 1) x) (field 3 bytes ∷ fs)) e (image long t))

  -- Before the next card, or at the end.
  behind_all : (turn : Turn) (fs : List Field) → past_of turn < 9 → number_of turn < new → after_address turn ≡ Addressed
      → Told (Imaged (past_of turn) new) fs → Told turn (version_fields new bytes ++ fs)
  unfolding past_of number_of
  behind_all Begun fs k m a t = absurd (omega arith)
  behind_all Addressed fs k m a t = no-card a
  behind_all (Numbered nth n) fs k m a t = no-card a
  behind_all (Imaged nth n) fs k m a t = pair_behind nth n fs (omega arith) m t
  behind_all Damaged fs k m a t = no-card a

  at_end : {turn : Turn} {fs : List Field} → Told turn fs → past_of turn + length (versions_from (number_of turn) fs) < 9
      → latest_from (number_of turn) (versions_from (number_of turn) fs) < new → Told turn (at_cards_end (version_fields new bytes) fs)
  unfolding at_cards_end versions_from latest_from past_of number_of
  at_end (ends {turn} e) k m = behind_all turn [] (omega arith) m (may_begin turn e) (ends refl)
  at_end (other {turn} {f} {fs} o t) k m =
      let e : versions_from (number_of turn) (f ∷ fs) ≡ versions_from (number_of turn) fs = other_versions (number_of turn) f fs o in
      subst (Told turn) (sym (no-if (eqb f.tag 1) (version_fields new bytes ++ (f ∷ fs)) (f ∷ at_cards_end (version_fields new bytes) fs) o.one))
      (other o (at_end t
      (subst (λ (vs : List Version). past_of turn + length vs < 9) e k)
      (subst (λ (vs : List Version). latest_from (number_of turn) vs < new) e m)))
  at_end (card {turn} {v} {fs} a l t) k m = behind_all turn (field 1 v ∷ fs) (omega arith) m a (card refl l t)
  at_end (first {v} {fs} l t) k m = first l (at_end t k (subst (λ (x : ℕ). x < new) (numbered 0 (number_at v 0) t) m))
  at_end (next {nth} {n} {v} {fs} l j h t) k m = next l j h (at_end t k (subst (λ (x : ℕ). x < new) (numbered n (number_at v 0) t) m))
  at_end (image l t) k m = image l (at_end t (omega arith) m)

  with-card : (b : Bool) (a : ℕ) {turn : Turn} (v : List ℕ) (fs : List Field) → after_address turn ≡ Addressed → length v ≡ 6 → Told Addressed fs
      → (length (versions_at a fs) < 8 → latest_number (versions_at a fs) < new → Told Addressed (with_version a (version_fields new bytes) fs))
      → length (cond b (versions_from 0 fs) (versions_at a fs)) < 8 → latest_number (cond b (versions_from 0 fs) (versions_at a fs)) < new
      → Told turn (cond b (field 1 v ∷ at_cards_end (version_fields new bytes) fs) (field 1 v ∷ with_version a (version_fields new bytes) fs))
  unfolding past_of number_of
  with-card true a v fs f l t ih k m = card f l (at_end t (omega arith) (subst (λ (x : ℕ). x < new) (latest-any (versions_from 0 fs)) m))
  with-card false a v fs f l t ih k m = card f l (ih k m)

  pub version-told : (a : ℕ) {turn : Turn} {fs : List Field} → Told turn fs → length (versions_at a fs) < 8 → latest_number (versions_at a fs) < new
      → Told turn (with_version a (version_fields new bytes) fs)
  unfolding with_version versions_at
  version-told a (ends e) k m = ends e
  version-told a (other {turn} {f} {fs} o t) k m =
      let e : versions_at a (f ∷ fs) ≡ versions_at a fs = other_at a f fs o in
      subst (Told turn) (sym (no-if (is_card a f) (f ∷ at_cards_end (version_fields new bytes) fs) (f ∷ with_version a (version_fields new bytes) fs) (not-card a f o)))
      (other o (version-told a t (subst (λ (vs : List Version). length vs < 8) e k) (subst (λ (vs : List Version). latest_number vs < new) e m)))
  version-told a (card {turn} {v} {fs} f l t) k m = with-card (eqb (address_of v) a) a v fs f l t (λ x y. version-told a t x y) k m
  version-told a (first l t) k m = first l (version-told a t k m)
  version-told a (next l j h t) k m = next l j h (version-told a t k m)
  version-told a (image l t) k m = image l (version-told a t k m)

  -- A card more, at the end.
  pub card-told : (address : List ℕ) → length address ≡ 6 → {turn : Turn} {fs : List Field} → Told turn fs
      → Told turn (fs ++ (field 1 address ∷ version_fields new bytes))
  card-told address s (ends {turn} m) = card (may_begin turn m) s (first refl (image long (ends refl)))
  card-told address s (other o t) = other o (card-told address s t)
  card-told address s (card a l t) = card a l (card-told address s t)
  card-told address s (first l t) = first l (card-told address s t)
  card-told address s (next l j h t) = next l j h (card-told address s t)
  card-told address s (image l t) = image l (card-told address s t)

-- ---- its addresses and its length

module _ (new : ℕ) (bytes : List ℕ) where
  end_addresses : (fs : List Field) → addresses_of (at_cards_end (version_fields new bytes) fs) ≡ addresses_of fs
  unfolding at_cards_end addresses_of
  end_addresses [] = refl
  end_addresses (f ∷ fs) =
      of_test (λ (l : List Field). addresses_of l ≡ addresses_of (f ∷ fs)) (eqb f.tag 1)
      (λ e. refl) (λ e. same-behind f (at_cards_end (version_fields new bytes) fs) fs (end_addresses fs))

  pub version_addresses : (a : ℕ) (fs : List Field) → addresses_of (with_version a (version_fields new bytes) fs) ≡ addresses_of fs
  unfolding with_version
  version_addresses a [] = refl
  version_addresses a (f ∷ fs) =
      of_test (λ (l : List Field). addresses_of l ≡ addresses_of (f ∷ fs)) (is_card a f)
      (λ e. same-behind f (at_cards_end (version_fields new bytes) fs) fs (end_addresses fs)) (λ e. same-behind f (with_version a (version_fields new bytes) fs) fs (version_addresses a fs))

  end-length : (fs : List Field) → length (at_cards_end (version_fields new bytes) fs) ≤ length fs + 2
  unfolding at_cards_end
  end-length [] = omega arith
  end-length (f ∷ fs) =
      of_test (λ (l : List Field). length l ≤ length (f ∷ fs) + 2) (eqb f.tag 1)
      (λ e. omega arith) (λ e. omega (arith, end-length fs))

  pub version-length : (a : ℕ) (fs : List Field) → length (with_version a (version_fields new bytes) fs) ≤ length fs + 2
  unfolding with_version
  version-length a [] = omega arith
  version-length a (f ∷ fs) =
      of_test (λ (l : List Field). length l ≤ length (f ∷ fs) + 2) (is_card a f)
      (λ e. omega (arith, end-length fs)) (λ e. omega (arith, version-length a fs))
