-- A card that is listed has a version: its turn lets no card end before an image.
-- Assumes nothing.
use Prim.Native.Nat.{ℕ, ◌+◌}
use mathlib.Core.Path.{◌≡◌, refl, sym, ap, ◌∙◌}
use mathlib.Core.Bool.{Bool, true, false, cond, ◌||◌, false≢true, true≢false}
use mathlib.Core.List.{List, [], ◌∷◌}
use native.Mathlib.Omega.{arith}
use lib.ListN.{length}
use lib.Dec.{eqb}
use Rattle.refusal.specs.declared.Refusal.TheVariants.{FieldDamaged}
use Rattle.catalogue_rules.specs.Field.{Field, number_at}
use Rattle.catalogue_rules.specs.declared.Turn.{Turn}
use Rattle.catalogue_rules.specs.declared.Turn.TheVariants.{Begun, Addressed, Numbered, Imaged, Damaged}
use Rattle.catalogue_rules.specs.Turns.{address_of, after_address, after_number, after_image, after, may_end, is_damaged}
use Rattle.catalogue_rules.specs.Reading.{Reading, catalogue, refused, with, is_last, ends, reading, addresses_of, is_among}
use Rattle.catalogue_rules.specs.Cards.{Version, versions_from, versions_at}
use Rattle.catalogue_rules.proofs.Bools.{and_left}

-- An image is still due.
due : Turn → Bool
due Begun = false
due Addressed = true
due (Numbered nth number) = true
due (Imaged nth number) = false
due Damaged = false

unfoldable pub some : List Version → Bool
some [] = false
some (v ∷ vs) = true

-- What was read begins with the field, and the rest was read behind it; or the field was the count.
data Taken (turn : Turn) (n : ℕ) (f : Field) (gs : List Field) (left : List ℕ) (fs : List Field) : Type 0 where
  ended : may_end turn ≡ true → fs ≡ [] → Taken turn n f gs left fs
  went : (hs : List Field) → fs ≡ f ∷ hs → is_damaged (after turn f) ≡ false → reading (after turn f) (n + 1) gs left ≡ catalogue hs → Taken turn n f gs left fs

module _ (turn : Turn) (n : ℕ) (f : Field) (gs : List Field) (left : List ℕ) (fs : List Field) where
  ended-if : (t : Bool) → ends turn n f (is_last gs left) ≡ t → cond t (catalogue []) (refused FieldDamaged) ≡ catalogue fs → Taken turn n f gs left fs
  ended-if true t e = let q : fs ≡ [] = cc in ended (and_left (may_end turn) _ t) q
  ended-if false t e = let z : ◌≡◌ {A = ℕ} 0 1 = cc in absurd (omega arith)

  went_if : (r : Reading) → reading (after turn f) (n + 1) gs left ≡ r → is_damaged (after turn f) ≡ false → with f r ≡ catalogue fs → Taken turn n f gs left fs
  went_if (refused why) q d e = let z : ◌≡◌ {A = ℕ} 0 1 = cc in absurd (omega arith)
  went_if (catalogue hs) q d e = let s : fs ≡ f ∷ hs = cc in went hs s d q

  taken-if : (a d : Bool) → is_damaged (after turn f) ≡ d
      → cond a (cond (ends turn n f (is_last gs left)) (catalogue []) (refused FieldDamaged))
      (cond d (refused FieldDamaged) (with f (reading (after turn f) (n + 1) gs left)))
      ≡ catalogue fs
      → Taken turn n f gs left fs
  taken-if true d q e = ended-if (ends turn n f (is_last gs left)) refl e
  taken-if false true q e = let z : ◌≡◌ {A = ℕ} 0 1 = cc in absurd (omega arith)
  taken-if false false q e = went_if (reading (after turn f) (n + 1) gs left) refl q e

  taken : reading turn n (f ∷ gs) left ≡ catalogue fs → Taken turn n f gs left fs
  unfolding reading
  taken e = taken-if (eqb f.tag 4) (is_damaged (after turn f)) refl e

-- While an image is due no card may begin and nothing may end; a number keeps it due.
due_unended : (turn : Turn) → due turn ≡ true → may_end turn ≡ true → ⊥
unfolding due
due_unended Begun d e = false≢true d
due_unended Addressed d e = false≢true e
due_unended (Numbered nth number) d e = false≢true e
due_unended (Imaged nth number) d e = false≢true d
due_unended Damaged d e = false≢true d

due-no-card : (turn : Turn) → due turn ≡ true → (l : Bool) → is_damaged (cond l (after_address turn) Damaged) ≡ false → ⊥
unfolding due
due-no-card turn d false e = true≢false e
due-no-card Begun d true e = false≢true d
due-no-card Addressed d true e = true≢false e
due-no-card (Numbered nth number) d true e = true≢false e
due-no-card (Imaged nth number) d true e = false≢true d
due-no-card Damaged d true e = false≢true d

due-number : (turn : Turn) → due turn ≡ true → (l : Bool) (k : ℕ) → is_damaged (cond l (after_number turn k) Damaged) ≡ false → due (cond l (after_number turn k) Damaged) ≡ true
unfolding due
due-number turn d false k e = absurd (true≢false e)
due-number Begun d true k e = absurd (false≢true d)
due-number Addressed d true k e = refl
due-number (Numbered nth number) d true k e = absurd (true≢false e)
due-number (Imaged nth number) d true k e = absurd (false≢true d)
due-number Damaged d true k e = absurd (false≢true d)

-- The four kinds of field, by the tests of the tag.
some-if : (a b c : Bool) (turn : Turn) (l₁ l₂ l₃ : Bool) (k m : ℕ) (v : List ℕ) (hs : List Field) → due turn ≡ true
    → is_damaged (cond a (cond l₁ (after_address turn) Damaged) (cond b (cond l₂ (after_number turn m) Damaged) (cond c (cond l₃ (after_image turn) Damaged) turn))) ≡ false
    → (due (cond a (cond l₁ (after_address turn) Damaged) (cond b (cond l₂ (after_number turn m) Damaged) (cond c (cond l₃ (after_image turn) Damaged) turn))) ≡ true → (i : ℕ) → some (versions_from i hs) ≡ true)
    → some (cond a [] (cond b (versions_from m hs) (cond c (record { number = k; image = v } ∷ versions_from k hs) (versions_from k hs)))) ≡ true
unfolding some
some-if true b c turn l₁ l₂ l₃ k m v hs d ok ih = absurd (due-no-card turn d l₁ ok)
some-if false true c turn l₁ l₂ l₃ k m v hs d ok ih = ih (due-number turn d l₂ m ok) m
some-if false false true turn l₁ l₂ l₃ k m v hs d ok ih = refl
some-if false false false turn l₁ l₂ l₃ k m v hs d ok ih = ih d k

some-taken : {turn : Turn} {n : ℕ} {f : Field} {gs : List Field} {left : List ℕ} {fs : List Field} → Taken turn n f gs left fs → due turn ≡ true
    → ((hs : List Field) → reading (after turn f) (n + 1) gs left ≡ catalogue hs → due (after turn f) ≡ true → (i : ℕ) → some (versions_from i hs) ≡ true)
    → (k : ℕ) → some (versions_from k fs) ≡ true
unfolding versions_from after
some-taken {turn} (ended m q) d ih k = absurd (due_unended turn d m)
some-taken {turn} {n} {f} (went hs q ok on) d ih k =
    ap (λ (l : List Field). some (versions_from k l)) q
    ∙ some-if (eqb f.tag 1) (eqb f.tag 2) (eqb f.tag 3) turn (eqb (length f.value) 6) (eqb (length f.value) 2) (eqb (length f.value) 128) k (number_at f.value 0) f.value hs d ok
    (λ y i. ih hs on y i)

some-due : (gs : List Field) (turn : Turn) (n : ℕ) (left : List ℕ) (fs : List Field) → reading turn n gs left ≡ catalogue fs → due turn ≡ true → (k : ℕ) → some (versions_from k fs) ≡ true
unfolding reading
some-due [] turn n left fs e d k = let z : ◌≡◌ {A = ℕ} 0 1 = cc in absurd (omega arith)
some-due (f ∷ gs) turn n left fs e d k = some-taken (taken turn n f gs left fs e) d (λ hs r y i. some-due gs (after turn f) (n + 1) left hs r y i) k

-- ---- the card at an address

address-due : (turn : Turn) (l : Bool) → is_damaged (cond l (after_address turn) Damaged) ≡ false → due (cond l (after_address turn) Damaged) ≡ true
unfolding due
address-due turn false e = absurd (true≢false e)
address-due Begun true e = refl
address-due Addressed true e = absurd (true≢false e)
address-due (Numbered nth number) true e = absurd (true≢false e)
address-due (Imaged nth number) true e = refl
address-due Damaged true e = absurd (true≢false e)

card-if : (a c : Bool) (turn next : Turn) (l : Bool) (x : ℕ) (who : ℕ) (hs : List Field) → eqb x who ≡ c
    → is_damaged (cond a (cond l (after_address turn) Damaged) next) ≡ false
    → (due (cond a (cond l (after_address turn) Damaged) next) ≡ true → some (versions_from 0 hs) ≡ true)
    → (is_among who (addresses_of hs) ≡ true → some (versions_at who hs) ≡ true)
    → is_among who (cond a (x ∷ addresses_of hs) (addresses_of hs)) ≡ true
    → some (cond a (cond c (versions_from 0 hs) (versions_at who hs)) (versions_at who hs)) ≡ true
card-if true true turn next l x who hs q ok now later m = now (address-due turn l ok)
card-if true false turn next l x who hs q ok now later m = later (ap (λ (b : Bool). b || is_among who (addresses_of hs)) (sym q) ∙ m)
card-if false c turn next l x who hs q ok now later m = later m

card-taken : (who : ℕ) {turn : Turn} {n : ℕ} {f : Field} {gs : List Field} {left : List ℕ} {fs : List Field} → Taken turn n f gs left fs
    → ((hs : List Field) → reading (after turn f) (n + 1) gs left ≡ catalogue hs → is_among who (addresses_of hs) ≡ true → some (versions_at who hs) ≡ true)
    → is_among who (addresses_of fs) ≡ true → some (versions_at who fs) ≡ true
unfolding versions_at addresses_of after
card-taken who (ended m q) ih y = absurd (false≢true (ap (λ (l : List Field). is_among who (addresses_of l)) (sym q) ∙ y))
card-taken who {turn} {n} {f} {gs} {left} (went hs q ok on) ih y =
    ap (λ (l : List Field). some (versions_at who l)) q
    ∙ card-if (eqb f.tag 1) (eqb (address_of f.value) who) turn
    (cond (eqb f.tag 2) (cond (eqb (length f.value) 2) (after_number turn (number_at f.value 0)) Damaged) (cond (eqb f.tag 3) (cond (eqb (length f.value) 128) (after_image turn) Damaged) turn))
    (eqb (length f.value) 6) (address_of f.value) who hs refl ok
    (λ d. some-due gs (after turn f) (n + 1) left hs on d 0)
    (λ m. ih hs on m)
    (ap (λ (l : List Field). is_among who (addresses_of l)) (sym q) ∙ y)

some_at : (who : ℕ) (gs : List Field) (turn : Turn) (n : ℕ) (left : List ℕ) (fs : List Field) → reading turn n gs left ≡ catalogue fs
    → is_among who (addresses_of fs) ≡ true → some (versions_at who fs) ≡ true
unfolding reading
some_at who [] turn n left fs e y = let z : ◌≡◌ {A = ℕ} 0 1 = cc in absurd (omega arith)
some_at who (f ∷ gs) turn n left fs e y = card-taken who (taken turn n f gs left fs e) (λ hs r m. some_at who gs (after turn f) (n + 1) left hs r m) y

pub record First (vs : List Version) : Type 0 where
  pub first : Version
  pub rest : List Version
  pub are : vs ≡ first ∷ rest

some_first : (vs : List Version) → some vs ≡ true → First vs
unfolding some
some_first [] e = absurd (false≢true e)
some_first (v ∷ vs) e = record { first = v; rest = vs; are = refl }

pub listed_has : (who : ℕ) (gs : List Field) (n : ℕ) (left : List ℕ) (fs : List Field) → reading Begun n gs left ≡ catalogue fs
    → is_among who (addresses_of fs) ≡ true → First (versions_at who fs)
listed_has who gs n left fs e y = some_first (versions_at who fs) (some_at who gs Begun n left fs e y)
