-- The oldest version less: the later ones follow the address as they followed it, and a card that had no other leaves no trace in the turns.
-- Assumes nothing.
use Prim.Native.Nat.{ℕ, ◌+◌, ◌≤◌, ◌<◌}
use mathlib.Core.Path.{◌≡◌, refl, sym, ap, subst, ◌∙◌}
use mathlib.Core.Bool.{Bool, true, false, cond, false≢true}
use mathlib.Core.List.{List, [], ◌∷◌}
use native.Mathlib.Omega.{arith}
use lib.ListN.{length}
use lib.Dec.{eqb}
use Rattle.bits.proofs.Tests.{of_test}
use Rattle.catalogue_rules.specs.Field.{Field, field}
use Rattle.catalogue_rules.specs.declared.Turn.{Turn}
use Rattle.catalogue_rules.specs.declared.Turn.TheVariants.{Addressed, Numbered, Imaged}
use Rattle.catalogue_rules.specs.Turns.{address_of, after_address}
use Rattle.catalogue_rules.specs.Reading.{addresses_of}
use Rattle.catalogue_rules.specs.Cards.{Version, versions_from}
use Rattle.catalogue_rules.specs.Edit.{is_card, without_image, without_oldest, leaves, without_version}
use Rattle.catalogue_rules.proofs.Bools.{no-if}
use Rattle.catalogue_kept.proofs.Told.{Other, Told, ends, other, card, first, next, image, no-card, may_stop}
use Rattle.catalogue_kept.proofs.Versions.{other_versions, not-card}
use Rattle.catalogue_kept.proofs.Parts.{Part, all, same-behind, part-behind, without, no_address}

-- ---- a lower place in the row of versions is as good

data Under : Turn → Turn → Type 0 where
  numbered : {j k n : ℕ} → j ≤ k → Under (Numbered j n) (Numbered k n)
  imaged : {j k n : ℕ} → j ≤ k → Under (Imaged j n) (Imaged k n)

under : {t u : Turn} {fs : List Field} → Under t u → Told u fs → Told t fs
under (numbered h) (ends e) = absurd (false≢true e)
under (numbered h) (other o t) = other o (under (numbered h) t)
under (numbered h) (card a l t) = no-card a
under (numbered {j = j} {n = n} h) (image l t) = image l (under {t = Imaged j n} (imaged h) t)
under (imaged h) (ends e) = ends refl
under (imaged h) (other o t) = other o (under (imaged h) t)
under (imaged h) (card a l t) = card refl l t
under (imaged {j} {k} h) (next l b r t) =
    let below : j < 8 = omega arith in
    let less : j + 1 ≤ k + 1 = omega arith in
    next l below r (under (numbered less) t)

-- ---- more versions, or none

is_none : List Version → Bool
is_none [] = true
is_none (v ∷ vs) = false

one-leaves : (v : Version) (vs : List Version) → leaves (v ∷ vs) ≡ is_none vs
unfolding is_none
one-leaves v [] = refl
one-leaves v (w ∷ vs) = refl

-- Behind a number there is an image.
some : {nth n : ℕ} {fs : List Field} → Told (Numbered nth n) fs → is_none (versions_from n fs) ≡ false
unfolding is_none versions_from
some (ends e) = absurd (false≢true e)
some {nth} {n} (other {f = f} {fs = fs} o t) = ap is_none (other_versions n f fs o) ∙ some t
some (card a l t) = no-card a
some (image l t) = refl

-- The turn behind what is dropped: a card that stays has just told its address, one that leaves had not yet begun.
Follows : Turn → Bool → Type 0
Follows turn true = after_address turn ≡ Addressed
Follows turn false = turn ≡ Addressed

-- Behind the oldest version: another is the card's first now; where none follows, the next card comes as it would have come before this one.
rest-told : {nth n : ℕ} {fs : List Field} (turn : Turn) → Told (Imaged nth n) fs → Follows turn (is_none (versions_from n fs)) → Told turn fs
unfolding is_none versions_from Follows
rest-told turn (ends e) s = ends (may_stop turn s)
rest-told {nth} {n} turn (other {f = f} {fs = fs} o t) s = other o (rest-told turn t (subst (Follows turn) (ap is_none (other_versions n f fs o)) s))
rest-told turn (card a l t) s = card s l t
rest-told {nth} {n} turn (next {v = v} {fs = fs} l b r t) s =
    let less : 1 ≤ nth + 1 = omega arith in
    let begun : turn ≡ Addressed = subst (Follows turn) (some t) s in
    subst (λ (u : Turn). Told u (field 2 v ∷ fs)) (sym begun) (first l (under (numbered less) t))

-- ---- without the oldest

pub other_image : (f : Field) (fs : List Field) → Other f → without_image (f ∷ fs) ≡ f ∷ without_image fs
unfolding without_image
other_image f fs o = no-if (eqb f.tag 3) fs (f ∷ without_image fs) o.three

pub other_oldest : (f : Field) (fs : List Field) → Other f → without_oldest (f ∷ fs) ≡ f ∷ without_oldest fs
unfolding without_oldest
other_oldest f fs o = no-if (eqb f.tag 2) (without_image fs) (f ∷ without_oldest fs) o.two

image-told : {nth n : ℕ} {fs : List Field} (turn : Turn) → Told (Numbered nth n) fs → Follows turn (leaves (versions_from n fs)) → Told turn (without_image fs)
unfolding versions_from without_image
image-told turn (ends e) s = absurd (false≢true e)
image-told {nth} {n} turn (other {f = f} {fs = fs} o t) s =
    subst (Told turn) (sym (other_image f fs o)) (other o (image-told turn t (subst (Follows turn) (ap leaves (other_versions n f fs o)) s)))
image-told turn (card a l t) s = no-card a
image-told {nth} {n} turn (image {v = v} {fs = fs} l t) s =
    rest-told turn t (subst (Follows turn) (one-leaves (record { number = n; image = v }) (versions_from n fs)) s)

oldest-told : {fs : List Field} (turn : Turn) → Told Addressed fs → Follows turn (leaves (versions_from 0 fs)) → Told turn (without_oldest fs)
unfolding versions_from without_oldest
oldest-told turn (ends e) s = absurd (false≢true e)
oldest-told turn (other {f = f} {fs = fs} o t) s =
    subst (Told turn) (sym (other_oldest f fs o)) (other o (oldest-told turn t (subst (Follows turn) (ap leaves (other_versions 0 f fs o)) s)))
oldest-told turn (card a l t) s = no-card a
oldest-told turn (first l t) s = image-told turn t s

without_card : (b c : Bool) (a : ℕ) (turn : Turn) (v : List ℕ) (fs : List Field) → after_address turn ≡ Addressed → length v ≡ 6 → Told Addressed fs
    → leaves (versions_from 0 fs) ≡ c → Told Addressed (without_version a fs)
    → Told turn (cond b (cond c (without_oldest fs) (field 1 v ∷ without_oldest fs)) (field 1 v ∷ without_version a fs))
unfolding Follows
without_card true true a turn v fs f l t s ih = oldest-told turn t (subst (Follows turn) (sym s) f)
without_card true false a turn v fs f l t s ih = card f l (oldest-told Addressed t (subst (Follows Addressed) (sym s) refl))
without_card false c a turn v fs f l t s ih = card f l ih

pub dropped-told : (a : ℕ) {turn : Turn} {fs : List Field} → Told turn fs → Told turn (without_version a fs)
unfolding without_version
dropped-told a (ends e) = ends e
dropped-told a (other {turn} {f} {fs} o t) =
    subst (Told turn)
    (sym (no-if (is_card a f) (cond (leaves (versions_from 0 fs)) (without_oldest fs) (f ∷ without_oldest fs)) (f ∷ without_version a fs) (not-card a f o)))
    (other o (dropped-told a t))
dropped-told a (card {turn} {v} {fs} f l t) = without_card (eqb (address_of v) a) (leaves (versions_from 0 fs)) a turn v fs f l t refl (dropped-told a t)
dropped-told a (first l t) = first l (dropped-told a t)
dropped-told a (next l b r t) = next l b r (dropped-told a t)
dropped-told a (image l t) = image l (dropped-told a t)

-- ---- its addresses and its length

image_addresses : (fs : List Field) → addresses_of (without_image fs) ≡ addresses_of fs
unfolding without_image
image_addresses [] = refl
image_addresses (f ∷ fs) =
    of_test (λ (l : List Field). addresses_of l ≡ addresses_of (f ∷ fs)) (eqb f.tag 3)
    (λ e. no_address 3 f fs e refl) (λ e. same-behind f (without_image fs) fs (image_addresses fs))

pub oldest_addresses : (fs : List Field) → addresses_of (without_oldest fs) ≡ addresses_of fs
unfolding without_oldest
oldest_addresses [] = refl
oldest_addresses (f ∷ fs) =
    of_test (λ (l : List Field). addresses_of l ≡ addresses_of (f ∷ fs)) (eqb f.tag 2)
    (λ e. image_addresses fs ∙ no_address 2 f fs e refl) (λ e. same-behind f (without_oldest fs) fs (oldest_addresses fs))

pub dropped_addresses : (a : ℕ) (fs : List Field) → Part (addresses_of (without_version a fs)) (addresses_of fs)
unfolding without_version
dropped_addresses a [] = all
dropped_addresses a (f ∷ fs) =
    of_test (λ (l : List Field). Part (addresses_of l) (addresses_of (f ∷ fs))) (is_card a f)
    (λ e.
    of_test (λ (l : List Field). Part (addresses_of l) (addresses_of (f ∷ fs))) (leaves (versions_from 0 fs))
    (λ c. subst (λ (l : List ℕ). Part l (addresses_of (f ∷ fs))) (sym (oldest_addresses fs)) (without f fs))
    (λ c. subst (λ (l : List ℕ). Part l (addresses_of (f ∷ fs))) (sym (same-behind f (without_oldest fs) fs (oldest_addresses fs))) all))
    (λ e. part-behind f (without_version a fs) fs (dropped_addresses a fs))

image-length : (fs : List Field) → length (without_image fs) ≤ length fs
unfolding without_image
image-length [] = omega arith
image-length (f ∷ fs) =
    of_test (λ (l : List Field). length l ≤ length (f ∷ fs)) (eqb f.tag 3) (λ e. omega arith) (λ e. omega (arith, image-length fs))

oldest-length : (fs : List Field) → length (without_oldest fs) ≤ length fs
unfolding without_oldest
oldest-length [] = omega arith
oldest-length (f ∷ fs) =
    of_test (λ (l : List Field). length l ≤ length (f ∷ fs)) (eqb f.tag 2)
    (λ e. omega (arith, image-length fs)) (λ e. omega (arith, oldest-length fs))

pub dropped-length : (a : ℕ) (fs : List Field) → length (without_version a fs) ≤ length fs
unfolding without_version
dropped-length a [] = omega arith
dropped-length a (f ∷ fs) =
    of_test (λ (l : List Field). length l ≤ length (f ∷ fs)) (is_card a f)
    (λ e.
    of_test (λ (l : List Field). length l ≤ length (f ∷ fs)) (leaves (versions_from 0 fs))
    (λ c. omega (arith, oldest-length fs)) (λ c. omega (arith, oldest-length fs)))
    (λ e. omega (arith, dropped-length a fs))
