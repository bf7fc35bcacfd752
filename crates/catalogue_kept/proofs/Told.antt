-- A catalogue's fields as a grammar: what may come in each turn. It holds just where the fields are in turn and their sizes fit.
-- Assumes nothing.
use Prim.Native.Nat.{ℕ, ◌+◌, ◌<◌}
use mathlib.Core.Path.{◌≡◌, refl, sym, ap, subst, ◌∙◌}
use mathlib.Core.Bool.{Bool, true, false, cond, ◌&&◌, not, false≢true, true≢false}
use mathlib.Core.List.{List, [], ◌∷◌}
use native.Mathlib.Omega.{arith}
use borrow.Author.Tests.{eqb-true, eq-eqb, ltb-true, lt-ltb, not-true}
use lib.ListN.{length}
use lib.Dec.{eqb, ltb}
use Rattle.catalogue_rules.specs.Field.{Field, field, number_at}
use Rattle.catalogue_rules.specs.declared.Turn.{Turn}
use Rattle.catalogue_rules.specs.declared.Turn.TheVariants.{Begun, Addressed, Numbered, Imaged, Damaged}
use Rattle.catalogue_rules.specs.Turns.{after_address, after_number, after_image, after, may_end, is_damaged}
use Rattle.catalogue_rules.proofs.Bools.{and_left, and_right}
use Rattle.catalogue_rules.specs.RoundTrip.{in_turn, Sizes}

-- An unknown field, which leaves the turn as it is.
pub record Other (f : Field) : Type 0 where
  pub one : eqb f.tag 1 ≡ false
  pub two : eqb f.tag 2 ≡ false
  pub three : eqb f.tag 3 ≡ false
  pub four : eqb f.tag 4 ≡ false
  pub size : length f.value < 65536

pub data Told : Turn → List Field → Type 0 where
  ends : {turn : Turn} → may_end turn ≡ true → Told turn []
  other : {turn : Turn} {f : Field} {fs : List Field} → Other f → Told turn fs → Told turn (f ∷ fs)
  card : {turn : Turn} {v : List ℕ} {fs : List Field} → after_address turn ≡ Addressed → length v ≡ 6 → Told Addressed fs → Told turn (field 1 v ∷ fs)
  first : {v : List ℕ} {fs : List Field} → length v ≡ 2 → Told (Numbered 1 (number_at v 0)) fs → Told Addressed (field 2 v ∷ fs)
  next : {nth n : ℕ} {v : List ℕ} {fs : List Field} → length v ≡ 2 → nth < 8 → n < number_at v 0
      → Told (Numbered (nth + 1) (number_at v 0)) fs → Told (Imaged nth n) (field 2 v ∷ fs)
  image : {nth n : ℕ} {v : List ℕ} {fs : List Field} → length v ≡ 128 → Told (Imaged nth n) fs → Told (Numbered nth n) (field 3 v ∷ fs)

-- No card comes in these turns.
pub no-card : {A : Type 0} → Damaged ≡ Addressed → A
no-card e = absurd (true≢false (ap is_damaged e))

-- ---- from the tests

-- A turn that a test leads to, with the fields behind it.
Goes : Turn → List Field → Type 0
Goes turn fs = not (is_damaged turn) && in_turn turn fs ≡ true

passed : (b : Bool) (turn : Turn) (fs : List Field) → Goes (cond b turn Damaged) fs → (b ≡ true) × Goes turn fs
unfolding Goes
passed true turn fs g = (refl, g)
passed false turn fs g = absurd (false≢true g)

module _ (v : List ℕ) (fs : List Field) (ih : (turn : Turn) → in_turn turn fs ≡ true → Told turn fs) where
  card_at : (turn : Turn) → length v ≡ 6 → Goes (after_address turn) fs → Told turn (field 1 v ∷ fs)
  unfolding Goes
  card_at Begun l g = card refl l (ih Addressed g)
  card_at Addressed l g = absurd (false≢true g)
  card_at (Numbered nth n) l g = absurd (false≢true g)
  card_at (Imaged nth n) l g = card refl l (ih Addressed g)
  card_at Damaged l g = absurd (false≢true g)

  next_at : (nth n : ℕ) (b c : Bool) → ltb nth 8 ≡ b → ltb n (number_at v 0) ≡ c → length v ≡ 2
      → Goes (cond (b && c) (Numbered (nth + 1) (number_at v 0)) Damaged) fs → Told (Imaged nth n) (field 2 v ∷ fs)
  unfolding Goes
  next_at nth n true true d e l g = next l (ltb-true nth 8 d) (ltb-true n (number_at v 0) e) (ih (Numbered (nth + 1) (number_at v 0)) g)
  next_at nth n true false d e l g = absurd (false≢true g)
  next_at nth n false c d e l g = absurd (false≢true g)

  number_at_lem : (turn : Turn) → length v ≡ 2 → Goes (after_number turn (number_at v 0)) fs → Told turn (field 2 v ∷ fs)
  unfolding Goes
  number_at_lem Begun l g = absurd (false≢true g)
  number_at_lem Addressed l g = first l (ih (Numbered 1 (number_at v 0)) g)
  number_at_lem (Numbered nth n) l g = absurd (false≢true g)
  number_at_lem (Imaged nth n) l g = next_at nth n (ltb nth 8) (ltb n (number_at v 0)) refl refl l g
  number_at_lem Damaged l g = absurd (false≢true g)

  image_at : (turn : Turn) → length v ≡ 128 → Goes (after_image turn) fs → Told turn (field 3 v ∷ fs)
  unfolding Goes
  image_at Begun l g = absurd (false≢true g)
  image_at Addressed l g = absurd (false≢true g)
  image_at (Numbered nth n) l g = image l (ih (Imaged nth n) g)
  image_at (Imaged nth n) l g = absurd (false≢true g)
  image_at Damaged l g = absurd (false≢true g)

-- The first field, by its tag.
module _ (turn : Turn) (f : Field) (fs : List Field) (s : length f.value < 65536) (ih : (next : Turn) → in_turn next fs ≡ true → Told next fs) where
  by_tag : (a b c : Bool) → eqb f.tag 1 ≡ a → eqb f.tag 2 ≡ b → eqb f.tag 3 ≡ c → eqb f.tag 4 ≡ false
      → Goes
      (cond a (cond (eqb (length f.value) 6) (after_address turn) Damaged)
      (cond b (cond (eqb (length f.value) 2) (after_number turn (number_at f.value 0)) Damaged)
      (cond c (cond (eqb (length f.value) 128) (after_image turn) Damaged) turn))) fs
      → Told turn (f ∷ fs)
  unfolding Goes
  by_tag true b c p q r d g =
      let x : (eqb (length f.value) 6 ≡ true) × Goes (after_address turn) fs = passed (eqb (length f.value) 6) (after_address turn) fs g in
      subst (λ (t : ℕ). Told turn (field t f.value ∷ fs)) (sym (eqb-true f.tag 1 p)) (card_at f.value fs ih turn (eqb-true (length f.value) 6 x.0) x.1)
  by_tag false true c p q r d g =
      let x : (eqb (length f.value) 2 ≡ true) × Goes (after_number turn (number_at f.value 0)) fs = passed (eqb (length f.value) 2) (after_number turn (number_at f.value 0)) fs g in
      subst (λ (t : ℕ). Told turn (field t f.value ∷ fs)) (sym (eqb-true f.tag 2 q)) (number_at_lem f.value fs ih turn (eqb-true (length f.value) 2 x.0) x.1)
  by_tag false false true p q r d g =
      let x : (eqb (length f.value) 128 ≡ true) × Goes (after_image turn) fs = passed (eqb (length f.value) 128) (after_image turn) fs g in
      subst (λ (t : ℕ). Told turn (field t f.value ∷ fs)) (sym (eqb-true f.tag 3 r)) (image_at f.value fs ih turn (eqb-true (length f.value) 128 x.0) x.1)
  by_tag false false false p q r d g =
      other (record { one = p; two = q; three = r; four = d; size = s }) (ih turn (and_right (not (is_damaged turn)) (in_turn turn fs) g))

pub told : (fs : List Field) (turn : Turn) → in_turn turn fs ≡ true → Sizes fs → Told turn fs
unfolding in_turn Sizes after Goes
told [] turn t s = ends t
told (f ∷ fs) turn t s =
    by_tag turn f fs s.0 (λ next u. told fs next u s.1) (eqb f.tag 1) (eqb f.tag 2) (eqb f.tag 3) refl refl refl
    (not-true (eqb f.tag 4) (and_left (not (eqb f.tag 4)) (not (is_damaged (after turn f)) && in_turn (after turn f) fs) t))
    (and_right (not (eqb f.tag 4)) (not (is_damaged (after turn f)) && in_turn (after turn f) fs) t)

-- ---- and back

may-end : (turn : Turn) → may_end turn ≡ true → is_damaged turn ≡ false
may-end Begun e = refl
may-end Addressed e = refl
may-end (Numbered nth n) e = refl
may-end (Imaged nth n) e = refl
may-end Damaged e = absurd (false≢true e)

-- A card may come just where the file may end.
pub may_begin : (turn : Turn) → may_end turn ≡ true → after_address turn ≡ Addressed
may_begin Begun e = refl
may_begin Addressed e = absurd (false≢true e)
may_begin (Numbered nth n) e = absurd (false≢true e)
may_begin (Imaged nth n) e = refl
may_begin Damaged e = absurd (false≢true e)

pub may_stop : (turn : Turn) → after_address turn ≡ Addressed → may_end turn ≡ true
may_stop Begun e = refl
may_stop Addressed e = no-card e
may_stop (Numbered nth n) e = no-card e
may_stop (Imaged nth n) e = refl
may_stop Damaged e = no-card e

not-damaged : {turn : Turn} {fs : List Field} → Told turn fs → is_damaged turn ≡ false
not-damaged (ends {turn} m) = may-end turn m
not-damaged (other o t) = not-damaged t
not-damaged (card {turn} a l t) = may-end turn (may_stop turn a)
not-damaged (first l t) = refl
not-damaged (next l k m t) = refl
not-damaged (image l t) = refl

goes : (b : Bool) (turn : Turn) (fs : List Field) → b ≡ true → is_damaged turn ≡ false → in_turn turn fs ≡ true → Goes (cond b turn Damaged) fs
unfolding Goes
goes b turn fs e d t = rw (e, d) t

stays : (a b c d : Bool) (p q r turn : Turn) (fs : List Field) → a ≡ false → b ≡ false → c ≡ false → d ≡ false → is_damaged turn ≡ false → in_turn turn fs ≡ true
    → not d && (not (is_damaged (cond a p (cond b q (cond c r turn)))) && in_turn (cond a p (cond b q (cond c r turn))) fs) ≡ true
stays a b c d p q r turn fs ea eb ec ed n t = rw (ea, eb, ec, ed, n) t

pub in_turn_lem : {turn : Turn} {fs : List Field} → Told turn fs → in_turn turn fs ≡ true
unfolding in_turn after Goes
in_turn_lem (ends m) = m
in_turn_lem (other {turn} {f} {fs} o t) =
    stays (eqb f.tag 1) (eqb f.tag 2) (eqb f.tag 3) (eqb f.tag 4) _ _ _ turn fs o.one o.two o.three o.four (not-damaged t) (in_turn_lem t)
in_turn_lem (card {turn} {v} {fs} a l t) =
    goes (eqb (length v) 6) (after_address turn) fs (eq-eqb (length v) 6 l) (ap is_damaged a) (ap (λ (u : Turn). in_turn u fs) a ∙ in_turn_lem t)
in_turn_lem (first {v} {fs} l t) =
    goes (eqb (length v) 2) (Numbered 1 (number_at v 0)) fs (eq-eqb (length v) 2 l) refl (in_turn_lem t)
in_turn_lem (next {nth} {n} {v} {fs} l k m t) =
    let e : after_number (Imaged nth n) (number_at v 0) ≡ Numbered (nth + 1) (number_at v 0) = rw (lt-ltb nth 8 k, lt-ltb n (number_at v 0) m) in
    goes (eqb (length v) 2) (after_number (Imaged nth n) (number_at v 0)) fs (eq-eqb (length v) 2 l) (ap is_damaged e) (ap (λ (u : Turn). in_turn u fs) e ∙ in_turn_lem t)
in_turn_lem (image {nth} {n} {v} {fs} l t) =
    goes (eqb (length v) 128) (Imaged nth n) fs (eq-eqb (length v) 128 l) refl (in_turn_lem t)

pub sizes : {turn : Turn} {fs : List Field} → Told turn fs → Sizes fs
unfolding Sizes
sizes (ends m) = tt
sizes (other o t) = (o.size, sizes t)
sizes (card a l t) = (omega arith, sizes t)
sizes (first l t) = (omega arith, sizes t)
sizes (next l k m t) = (omega arith, sizes t)
sizes (image l t) = (omega arith, sizes t)
