-- A drop takes the oldest version of its card, the address with the last one, and leaves the versions of every other card as they were.
-- Assumes nothing.
use Prim.Native.Nat.{ℕ, ◌≤◌, ◌<◌}
use mathlib.Core.Path.{◌≡◌, refl, sym, ap, subst, ◌∙◌}
use mathlib.Core.Bool.{Bool, true, false, cond, false≢true}
use mathlib.Core.List.{List, [], ◌∷◌}
use native.Mathlib.Omega.{arith}
use borrow.Author.Tests.{eqb-true}
use lib.Dec.{eqb}
use Rattle.bits.proofs.Tests.{of_test}
use Rattle.catalogue_rules.specs.Field.{Field, field, number_at}
use Rattle.catalogue_rules.specs.declared.Turn.{Turn}
use Rattle.catalogue_rules.specs.declared.Turn.TheVariants.{Begun, Addressed, Numbered, Imaged, Damaged}
use Rattle.catalogue_rules.specs.Turns.{address_of}
use Rattle.catalogue_rules.specs.Reading.{addresses_of, is_among, any_twice}
use Rattle.catalogue_rules.specs.Cards.{Version, versions_from, versions_at}
use Rattle.catalogue_rules.proofs.Bools.{and_left, and_right, or_left, or_right, no-if}
use Rattle.catalogue_rules.specs.Edit.{is_card, without_image, without_oldest, leaves, without_version}
use Rattle.catalogue_kept.proofs.Told.{Other, Told, ends, other, card, first, next, image, no-card}
use Rattle.catalogue_kept.proofs.Versions.{other_versions, other_at, not-card}
use Rattle.catalogue_kept.proofs.Drops.{other_image, other_oldest, oldest_addresses}
use Rattle.catalogue_kept.proofs.Rows.{Above, Rise, later, none-later}
use Rattle.catalogue_kept.proofs.Fields.{version, another, at_card, at_past, among_past, among_behind, at_behind, none_at}

-- ---- the numbers rise

-- The number told last; what lies below the numbers that may come.
number_in : Turn → ℕ
number_in Begun = 0
number_in Addressed = 0
number_in (Numbered nth n) = n
number_in (Imaged nth n) = n
number_in Damaged = 0

Below : Turn → ℕ → Type 0
Below Begun m = ⊥
Below Addressed m = ⊥
Below (Numbered nth n) m = m < n
Below (Imaged nth n) m = m ≤ n
Below Damaged m = ⊥

above : {turn : Turn} {fs : List Field} (m : ℕ) → Told turn fs → Below turn m → Above m (versions_from (number_in turn) fs)
unfolding versions_from Above number_in Below
above m (ends e) l = tt
above m (other {turn} {f} {fs} o t) l = subst (Above m) (sym (other_versions (number_in turn) f fs o)) (above m t l)
above m (card a s t) l = tt
above m (first s t) l = absurd l
above m (next {v = v} s b r t) l = let k : m < number_at v 0 = omega arith in above m t k
above m (image {nth} {n} s t) l = let k : n ≤ n = omega arith in (l, above n t k)

numbers_rise : {nth n : ℕ} {fs : List Field} → Told (Numbered nth n) fs → Rise (versions_from n fs)
unfolding versions_from Rise number_in Below
numbers_rise (ends e) = absurd (false≢true e)
numbers_rise {nth} {n} (other {f = f} {fs = fs} o t) = subst Rise (sym (other_versions n f fs o)) (numbers_rise t)
numbers_rise (card a s t) = no-card a
numbers_rise {nth} {n} (image s t) = let k : n ≤ n = omega arith in above n t k

card-rises : {fs : List Field} → Told Addressed fs → Rise (versions_from 0 fs)
unfolding versions_from
card-rises (ends e) = absurd (false≢true e)
card-rises (other {f = f} {fs = fs} o t) = subst Rise (sym (other_versions 0 f fs o)) (card-rises t)
card-rises (card a s t) = no-card a
card-rises (first s t) = numbers_rise t

pub versions_rise : (a : ℕ) {turn : Turn} {fs : List Field} → Told turn fs → Rise (versions_at a fs)
unfolding versions_at Rise
versions_rise a (ends e) = tt
versions_rise a (other {f = f} {fs = fs} o t) = subst Rise (sym (other_at a f fs o)) (versions_rise a t)
versions_rise a (card {v = v} b s t) = of_test Rise (eqb (address_of v) a) (λ e. card-rises t) (λ e. versions_rise a t)
versions_rise a (first s t) = versions_rise a t
versions_rise a (next s b r t) = versions_rise a t
versions_rise a (image s t) = versions_rise a t

-- ---- without the oldest, behind an address

-- Behind an image the number told before it counts no more.
any-number : {nth n : ℕ} {fs : List Field} (m k : ℕ) → Told (Imaged nth n) fs → versions_from m fs ≡ versions_from k fs
unfolding versions_from
any-number m k (ends e) = refl
any-number m k (other {f = f} {fs = fs} o t) = other_versions m f fs o ∙ any-number m k t ∙ sym (other_versions k f fs o)
any-number m k (card a s t) = refl
any-number m k (next s b r t) = refl

image-later : {nth n : ℕ} {fs : List Field} (m : ℕ) → Told (Numbered nth n) fs → versions_from m (without_image fs) ≡ later (versions_from n fs)
unfolding versions_from without_image
image-later m (ends e) = absurd (false≢true e)
image-later {nth} {n} m (other {f = f} {fs = fs} o t) =
    ap (versions_from m) (other_image f fs o) ∙ other_versions m f (without_image fs) o ∙ image-later m t ∙ ap later (sym (other_versions n f fs o))
image-later m (card a s t) = no-card a
image-later {nth} {n} m (image s t) = any-number m n t

oldest-later : {fs : List Field} (m : ℕ) → Told Addressed fs → versions_from m (without_oldest fs) ≡ later (versions_from 0 fs)
unfolding versions_from without_oldest
oldest-later m (ends e) = absurd (false≢true e)
oldest-later m (other {f = f} {fs = fs} o t) =
    ap (versions_from m) (other_oldest f fs o) ∙ other_versions m f (without_oldest fs) o ∙ oldest-later m t ∙ ap later (sym (other_versions 0 f fs o))
oldest-later m (card a s t) = no-card a
oldest-later m (first s t) = image-later m t

image-others : {nth n : ℕ} {fs : List Field} (b : ℕ) → Told (Numbered nth n) fs → versions_at b (without_image fs) ≡ versions_at b fs
unfolding versions_at without_image
image-others b (ends e) = absurd (false≢true e)
image-others b (other {f = f} {fs = fs} o t) =
    ap (versions_at b) (other_image f fs o) ∙ other_at b f (without_image fs) o ∙ image-others b t ∙ sym (other_at b f fs o)
image-others b (card a s t) = no-card a
image-others b (image s t) = refl

oldest-others : {fs : List Field} (b : ℕ) → Told Addressed fs → versions_at b (without_oldest fs) ≡ versions_at b fs
unfolding versions_at without_oldest
oldest-others b (ends e) = absurd (false≢true e)
oldest-others b (other {f = f} {fs = fs} o t) =
    ap (versions_at b) (other_oldest f fs o) ∙ other_at b f (without_oldest fs) o ∙ oldest-others b t ∙ sym (other_at b f fs o)
oldest-others b (card a s t) = no-card a
oldest-others b (first s t) = image-others b t

-- ---- the drop, in any fields that are in turn

-- An unknown field stays.
other_dropped : (a : ℕ) (f : Field) (fs : List Field) → Other f → without_version a (f ∷ fs) ≡ f ∷ without_version a fs
unfolding without_version
other_dropped a f fs o = no-if (is_card a f) _ _ (not-card a f o)

dropped-from : (a m : ℕ) {turn : Turn} {fs : List Field} → Told turn fs → versions_from m (without_version a fs) ≡ versions_from m fs
unfolding without_version versions_from
dropped-from a m (ends e) = refl
dropped-from a m (other {f = f} {fs = fs} o t) =
    ap (versions_from m) (other_dropped a f fs o) ∙ other_versions m f (without_version a fs) o ∙ dropped-from a m t ∙ sym (other_versions m f fs o)
dropped-from a m (card {v = v} {fs = fs} b s t) =
    of_test (λ (x : List Field). versions_from m x ≡ []) (eqb (address_of v) a)
    (λ e.
    of_test (λ (x : List Field). versions_from m x ≡ []) (leaves (versions_from 0 fs))
    (λ l. oldest-later m t ∙ none-later (versions_from 0 fs) l) (λ l. refl))
    (λ e. refl)
dropped-from a m (first {v} s t) = dropped-from a (number_at v 0) t
dropped-from a m (next {v = v} s b r t) = dropped-from a (number_at v 0) t
dropped-from a m (image {v = v} s t) = ap (λ (vs : List Version). version m v ∷ vs) (dropped-from a m t)

pub dropped-others : (a b : ℕ) → (b ≡ a → ⊥) → {turn : Turn} {fs : List Field} → Told turn fs → versions_at b (without_version a fs) ≡ versions_at b fs
unfolding without_version versions_at
dropped-others a b d (ends e) = refl
dropped-others a b d (other {f = f} {fs = fs} o t) =
    ap (versions_at b) (other_dropped a f fs o) ∙ other_at b f (without_version a fs) o ∙ dropped-others a b d t ∙ sym (other_at b f fs o)
dropped-others a b d (card {v = v} {fs = fs} c s t) =
    of_test (λ (x : List Field). versions_at b x ≡ versions_at b (field 1 v ∷ fs)) (eqb (address_of v) a)
    (λ e.
    of_test (λ (x : List Field). versions_at b x ≡ versions_at b (field 1 v ∷ fs)) (leaves (versions_from 0 fs))
    (λ l. oldest-others b t ∙ sym (at_past (field 1 v) fs b (another a b (field 1 v) d e)))
    (λ l.
    at_past (field 1 v) (without_oldest fs) b (another a b (field 1 v) d e) ∙ oldest-others b t ∙ sym (at_past (field 1 v) fs b (another a b (field 1 v) d e))))
    (λ e. at_behind (field 1 v) (without_version a fs) fs b (dropped-from a 0 t) (dropped-others a b d t))
dropped-others a b d (first s t) = dropped-others a b d t
dropped-others a b d (next s c r t) = dropped-others a b d t
dropped-others a b d (image s t) = dropped-others a b d t

-- ---- the addresses

-- The card that comes first is not listed behind itself, where none is twice.
apart-one : (one : Bool) (a b : ℕ) (l : List ℕ) → any_twice (cond one (b ∷ l) l) ≡ false → one ≡ true → b ≡ a → is_among a l ≡ false
unfolding any_twice
apart-one false a b l t e s = absurd (false≢true e)
apart-one true a b l t e s = ap (λ (c : ℕ). is_among c l) (sym s) ∙ or_left (is_among b l) (any_twice l) t

apart-on : (one : Bool) (b : ℕ) (l : List ℕ) → any_twice (cond one (b ∷ l) l) ≡ false → any_twice l ≡ false
unfolding any_twice
apart-on false b l t = t
apart-on true b l t = or_right (is_among b l) (any_twice l) t

module _ (f : Field) (fs : List Field) (t : any_twice (addresses_of (f ∷ fs)) ≡ false) where
  once : (a : ℕ) → is_card a f ≡ true → is_among a (addresses_of fs) ≡ false
  unfolding addresses_of
  once a e =
      apart-one (eqb f.tag 1) a (address_of f.value) (addresses_of fs) t (and_left (eqb f.tag 1) (eqb (address_of f.value) a) e)
      (eqb-true (address_of f.value) a (and_right (eqb f.tag 1) (eqb (address_of f.value) a) e))

  apart-behind : any_twice (addresses_of fs) ≡ false
  unfolding addresses_of
  apart-behind = apart-on (eqb f.tag 1) (address_of f.value) (addresses_of fs) t

-- The card itself.
pub dropped-later : (a : ℕ) {turn : Turn} {fs : List Field} → Told turn fs → any_twice (addresses_of fs) ≡ false → versions_at a (without_version a fs) ≡ later (versions_at a fs)
unfolding without_version versions_at
dropped-later a (ends e) p = refl
dropped-later a (other {f = f} {fs = fs} o t) p =
    ap (versions_at a) (other_dropped a f fs o)
    ∙ other_at a f (without_version a fs) o
    ∙ dropped-later a t (apart-behind f fs p)
    ∙ ap later (sym (other_at a f fs o))
dropped-later a (card {v = v} {fs = fs} c s t) p =
    of_test (λ (x : List Field). versions_at a x ≡ later (versions_at a (field 1 v ∷ fs))) (eqb (address_of v) a)
    (λ e.
    of_test (λ (x : List Field). versions_at a x ≡ later (versions_at a (field 1 v ∷ fs))) (leaves (versions_from 0 fs))
    (λ l.
    oldest-others a t
    ∙ none_at a fs (once (field 1 v) fs p a e)
    ∙ sym (none-later (versions_from 0 fs) l)
    ∙ ap later (sym (at_card (field 1 v) fs a e)))
    (λ l. at_card (field 1 v) (without_oldest fs) a e ∙ oldest-later 0 t ∙ ap later (sym (at_card (field 1 v) fs a e))))
    (λ e.
    at_past (field 1 v) (without_version a fs) a e ∙ dropped-later a t (apart-behind (field 1 v) fs p) ∙ ap later (sym (at_past (field 1 v) fs a e)))
dropped-later a (first {v} {fs} s t) p = dropped-later a t (apart-behind (field 2 v) fs p)
dropped-later a (next {v = v} {fs = fs} s c r t) p = dropped-later a t (apart-behind (field 2 v) fs p)
dropped-later a (image {v = v} {fs = fs} s t) p = dropped-later a t (apart-behind (field 3 v) fs p)

pub dropped-lists : (a b : ℕ) (fs : List Field) → (b ≡ a → ⊥) → is_among b (addresses_of (without_version a fs)) ≡ is_among b (addresses_of fs)
unfolding without_version
dropped-lists a b [] d = refl
dropped-lists a b (f ∷ fs) d =
    of_test (λ (x : List Field). is_among b (addresses_of x) ≡ is_among b (addresses_of (f ∷ fs))) (is_card a f)
    (λ e.
    of_test (λ (x : List Field). is_among b (addresses_of x) ≡ is_among b (addresses_of (f ∷ fs))) (leaves (versions_from 0 fs))
    (λ l. ap (is_among b) (oldest_addresses fs) ∙ sym (among_past f fs b (another a b f d e)))
    (λ l. among_behind f (without_oldest fs) fs b (ap (is_among b) (oldest_addresses fs))))
    (λ e. among_behind f (without_version a fs) fs b (dropped-lists a b fs d))

-- A card that had one version is listed no more.
pub dropped-left : (a : ℕ) (fs : List Field) → any_twice (addresses_of fs) ≡ false → leaves (versions_at a fs) ≡ true → is_among a (addresses_of (without_version a fs)) ≡ false
unfolding without_version addresses_of
dropped-left a [] p l = refl
dropped-left a (f ∷ fs) p l =
    of_test (λ (x : List Field). is_among a (addresses_of x) ≡ false) (is_card a f)
    (λ e.
    of_test (λ (x : List Field). is_among a (addresses_of x) ≡ false) (leaves (versions_from 0 fs))
    (λ k. ap (is_among a) (oldest_addresses fs) ∙ once f fs p a e)
    (λ k. absurd (false≢true (sym k ∙ ap leaves (sym (at_card f fs a e)) ∙ l))))
    (λ e. among_past f (without_version a fs) a e ∙ dropped-left a fs (apart-behind f fs p) (ap leaves (sym (at_past f fs a e)) ∙ l))

-- A card that had more is listed still.
pub dropped-kept : (a : ℕ) (fs : List Field) → leaves (versions_at a fs) ≡ false → is_among a (addresses_of (without_version a fs)) ≡ is_among a (addresses_of fs)
unfolding without_version versions_at
dropped-kept a [] l = absurd (false≢true (sym l))
dropped-kept a (f ∷ fs) l =
    of_test (λ (x : List Field). is_among a (addresses_of x) ≡ is_among a (addresses_of (f ∷ fs))) (is_card a f)
    (λ e.
    of_test (λ (x : List Field). is_among a (addresses_of x) ≡ is_among a (addresses_of (f ∷ fs))) (leaves (versions_from 0 fs))
    (λ k. absurd (false≢true (sym l ∙ ap leaves (at_card f fs a e) ∙ k)))
    (λ k. among_behind f (without_oldest fs) fs a (ap (is_among a) (oldest_addresses fs))))
    (λ e. among_behind f (without_version a fs) fs a (dropped-kept a fs (ap leaves (sym (at_past f fs a e)) ∙ l)))
