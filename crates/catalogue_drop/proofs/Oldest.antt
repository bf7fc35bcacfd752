-- A card in an accepted catalogue: behind its address stand a number and then an image, with unknown fields at most between.
-- Assumes nothing.
use Prim.Native.Nat.{ℕ, ◌+◌}
use mathlib.Core.Path.{◌≡◌, refl, sym, ap, ap₂, ◌∙◌}
use mathlib.Core.Bool.{Bool, true, false, cond, ◌&&◌, ◌||◌, not, false≢true, true≢false}
use mathlib.Core.List.{List, [], ◌∷◌, ◌++◌}
use native.Mathlib.Omega.{arith}
use borrow.Author.Tests.{eqb-true, not-true}
use lib.ListN.{length, length-append}
use lib.Dec.{eqb}
use Rattle.catalogue_rules.specs.Field.{Field, size_of, field, bytes_of, number_at}
use Rattle.catalogue_rules.specs.declared.Turn.{Turn}
use Rattle.catalogue_rules.specs.declared.Turn.TheVariants.{Begun, Addressed, Numbered, Imaged, Damaged}
use Rattle.catalogue_rules.specs.Turns.{address_of, after_address, after, is_damaged}
use Rattle.catalogue_rules.specs.Reading.{addresses_of, is_among}
use Rattle.catalogue_rules.specs.Cards.{versions_from}
use Rattle.catalogue_rules.proofs.Bools.{and_left, and_right}
use Rattle.catalogue_rules.proofs.Turning.{held}
use Rattle.catalogue_rules.specs.RoundTrip.{in_turn}
use Rattle.catalogue_rules.specs.Edit.{is_card, without_image, without_oldest, leaves, without_version}
use Rattle.catalogue_put.specs.Places.{card_place, field_place}

-- ---- one field in turn

module _ (turn : Turn) (f : Field) (fs : List Field) (t : in_turn turn (f ∷ fs) ≡ true) where
  behind_turn : not (is_damaged (after turn f)) && in_turn (after turn f) fs ≡ true
  unfolding in_turn
  behind_turn = and_right (not (eqb f.tag 4)) (not (is_damaged (after turn f)) && in_turn (after turn f) fs) t

  pub not-damaged : is_damaged (after turn f) ≡ false
  not-damaged = not-true (is_damaged (after turn f)) (and_left (not (is_damaged (after turn f))) (in_turn (after turn f) fs) behind_turn)

  pub next-turn : in_turn (after turn f) fs ≡ true
  next-turn = and_right (not (is_damaged (after turn f))) (in_turn (after turn f) fs) behind_turn

-- ---- the image behind a number

pub record Image (fs : List Field) : Type 0 where
  pub before : List Field
  pub image : Field
  pub rest : List Field
  pub are : fs ≡ before ++ (image ∷ rest)
  pub size : length image.value ≡ 128
  pub gone : without_image fs ≡ before ++ rest
  pub place : (tail : List Field) → field_place 3 (fs ++ tail) ≡ length (bytes_of before)

-- A field more before it.
pub size-on : (f : Field) (fs : List Field) → size_of f + length (bytes_of fs) ≡ length (bytes_of (f ∷ fs))
unfolding bytes_of
size-on f fs = let e : length (f.value ++ bytes_of fs) ≡ length f.value + length (bytes_of fs) = length-append f.value (bytes_of fs) in omega arith

image-here : (f : Field) (fs : List Field) → eqb f.tag 3 ≡ true → length f.value ≡ 128 → Image (f ∷ fs)
unfolding without_image field_place bytes_of
image-here f fs t s =
    record {
      before = [];
      image = f;
      rest = fs;
      are = refl;
      size = s;
      gone = ap (λ (b : Bool). cond b fs (f ∷ without_image fs)) t;
      place = λ tail. ap (λ (b : Bool). cond b 0 (size_of f + field_place 3 (fs ++ tail))) t;
    }

image-on : (f : Field) (fs : List Field) → eqb f.tag 3 ≡ false → Image fs → Image (f ∷ fs)
unfolding without_image field_place
image-on f fs t i =
    record {
      before = f ∷ i.before;
      image = i.image;
      rest = i.rest;
      are = ap (λ (l : List Field). f ∷ l) i.are;
      size = i.size;
      gone = ap (λ (b : Bool). cond b fs (f ∷ without_image fs)) t ∙ ap (λ (l : List Field). f ∷ l) i.gone;
      place = λ tail.
          ap (λ (b : Bool). cond b 0 (size_of f + field_place 3 (fs ++ tail))) t
          ∙ ap (λ (n : ℕ). size_of f + n) (i.place tail)
          ∙ size-on f i.before;
    }

-- A field whose tag would be damage, were it known, leaves the turn as it is.
stays : (a b c : Bool) (p q r turn : Turn) → (a ≡ true → is_damaged p ≡ true) → (b ≡ true → is_damaged q ≡ true) → (c ≡ true → is_damaged r ≡ true)
    → is_damaged (cond a p (cond b q (cond c r turn))) ≡ false → cond a p (cond b q (cond c r turn)) ≡ turn
stays true b c p q r turn x y z e = absurd (true≢false (sym (x refl) ∙ e))
stays false true c p q r turn x y z e = absurd (true≢false (sym (y refl) ∙ e))
stays false false true p q r turn x y z e = absurd (true≢false (sym (z refl) ∙ e))
stays false false false p q r turn x y z e = refl

damage : (b : Bool) → is_damaged (cond b Damaged Damaged) ≡ true
damage true = refl
damage false = refl

never : (b : Bool) {A : Type 0} → b ≡ false → b ≡ true → A
never b n y = absurd (true≢false (sym y ∙ n))

-- The turn behind a field goes by its tag.
by_tag : (t : ℕ) (turn : Turn) (f : Field) → eqb f.tag t ≡ true → after turn f ≡ after turn (field t f.value)
by_tag t turn f e = ap (λ (n : ℕ). after turn (field n f.value)) (eqb-true f.tag t e)

numbered-stays : (nth n : ℕ) (f : Field) → eqb f.tag 3 ≡ false → is_damaged (after (Numbered nth n) f) ≡ false → after (Numbered nth n) f ≡ Numbered nth n
unfolding after
numbered-stays nth n f other d =
    stays (eqb f.tag 1) (eqb f.tag 2) (eqb f.tag 3) _ _ _ (Numbered nth n)
    (λ e. damage (eqb (length f.value) 6)) (λ e. damage (eqb (length f.value) 2)) (never (eqb f.tag 3) other) d

image-if : (b : Bool) (nth n : ℕ) (f : Field) (fs : List Field) → eqb f.tag 3 ≡ b → in_turn (Numbered nth n) (f ∷ fs) ≡ true
    → (in_turn (Numbered nth n) fs ≡ true → Image fs) → Image (f ∷ fs)
unfolding after
image-if true nth n f fs e t ih =
    image-here f fs e
    (eqb-true (length f.value) 128
    (held (eqb (length f.value) 128) (Imaged nth n) (ap is_damaged (sym (by_tag 3 (Numbered nth n) f e)) ∙ not-damaged (Numbered nth n) f fs t)))
image-if false nth n f fs e t ih =
    image-on f fs e
    (ih (ap (λ (turn : Turn). in_turn turn fs) (sym (numbered-stays nth n f e (not-damaged (Numbered nth n) f fs t))) ∙ next-turn (Numbered nth n) f fs t))

image_of_lem : (fs : List Field) (nth n : ℕ) → in_turn (Numbered nth n) fs ≡ true → Image fs
unfolding in_turn
image_of_lem [] nth n t = absurd (false≢true t)
image_of_lem (f ∷ fs) nth n t = image-if (eqb f.tag 3) nth n f fs refl t (image_of_lem fs nth n)

-- ---- the number behind an address

pub record Oldest (fs : List Field) : Type 0 where
  pub before : List Field
  pub number : Field
  pub rest : List Field
  pub are : fs ≡ before ++ (number ∷ rest)
  pub size : length number.value ≡ 2
  pub image : Image rest
  pub gone : without_oldest fs ≡ before ++ without_image rest
  pub is_number : number.tag ≡ 2
  pub place : (tail : List Field) → field_place 2 (fs ++ tail) ≡ length (bytes_of before)

number-here : (f : Field) (fs : List Field) → eqb f.tag 2 ≡ true → length f.value ≡ 2 → Image fs → Oldest (f ∷ fs)
unfolding without_oldest field_place bytes_of
number-here f fs t s i =
    record {
      before = [];
      number = f;
      rest = fs;
      are = refl;
      size = s;
      image = i;
      gone = ap (λ (b : Bool). cond b (without_image fs) (f ∷ without_oldest fs)) t;
      is_number = eqb-true f.tag 2 t;
      place = λ tail. ap (λ (b : Bool). cond b 0 (size_of f + field_place 2 (fs ++ tail))) t;
    }

number-on : (f : Field) (fs : List Field) → eqb f.tag 2 ≡ false → Oldest fs → Oldest (f ∷ fs)
unfolding without_oldest field_place
number-on f fs t o =
    record {
      before = f ∷ o.before;
      number = o.number;
      rest = o.rest;
      are = ap (λ (l : List Field). f ∷ l) o.are;
      size = o.size;
      image = o.image;
      gone = ap (λ (b : Bool). cond b (without_image fs) (f ∷ without_oldest fs)) t ∙ ap (λ (l : List Field). f ∷ l) o.gone;
      is_number = o.is_number;
      place = λ tail.
          ap (λ (b : Bool). cond b 0 (size_of f + field_place 2 (fs ++ tail))) t
          ∙ ap (λ (n : ℕ). size_of f + n) (o.place tail)
          ∙ size-on f o.before;
    }

addressed-stays : (f : Field) → eqb f.tag 2 ≡ false → is_damaged (after Addressed f) ≡ false → after Addressed f ≡ Addressed
unfolding after
addressed-stays f other d =
    stays (eqb f.tag 1) (eqb f.tag 2) (eqb f.tag 3) _ _ _ Addressed
    (λ e. damage (eqb (length f.value) 6)) (never (eqb f.tag 2) other) (λ e. damage (eqb (length f.value) 128)) d

two-long : (f : Field) (fs : List Field) → eqb f.tag 2 ≡ true → in_turn Addressed (f ∷ fs) ≡ true → eqb (length f.value) 2 ≡ true
unfolding after
two-long f fs e t =
    held (eqb (length f.value) 2) (Numbered 1 (number_at f.value 0)) (ap is_damaged (sym (by_tag 2 Addressed f e)) ∙ not-damaged Addressed f fs t)

number-if : (b : Bool) (f : Field) (fs : List Field) → eqb f.tag 2 ≡ b → in_turn Addressed (f ∷ fs) ≡ true
    → (in_turn Addressed fs ≡ true → Oldest fs) → Oldest (f ∷ fs)
unfolding after
number-if true f fs e t ih =
    number-here f fs e (eqb-true (length f.value) 2 (two-long f fs e t))
    (image_of_lem fs 1 (number_at f.value 0)
    (ap (λ (turn : Turn). in_turn turn fs)
    (sym (by_tag 2 Addressed f e ∙ ap (λ (b : Bool). cond b (Numbered 1 (number_at f.value 0)) Damaged) (two-long f fs e t)))
    ∙ next-turn Addressed f fs t))
number-if false f fs e t ih =
    number-on f fs e
    (ih (ap (λ (turn : Turn). in_turn turn fs) (sym (addressed-stays f e (not-damaged Addressed f fs t))) ∙ next-turn Addressed f fs t))

oldest_of : (fs : List Field) → in_turn Addressed fs ≡ true → Oldest fs
unfolding in_turn
oldest_of [] t = absurd (false≢true t)
oldest_of (f ∷ fs) t = number-if (eqb f.tag 2) f fs refl t (oldest_of fs)

-- ---- the card at an address

pub record Listed (a : ℕ) (fs : List Field) : Type 0 where
  pub before : List Field
  pub card : Field
  pub rest : List Field
  pub are : fs ≡ before ++ (card ∷ rest)
  pub size : length card.value ≡ 6
  pub oldest : Oldest rest
  pub gone : without_version a fs ≡ before ++ cond (leaves (versions_from 0 rest)) (without_oldest rest) (card ∷ without_oldest rest)
  pub place : (tail : List Field) → card_place a (fs ++ tail) ≡ length (bytes_of before) + 9

addressed : (turn : Turn) → is_damaged (after_address turn) ≡ false → after_address turn ≡ Addressed
addressed Begun d = refl
addressed Addressed d = absurd (true≢false d)
addressed (Numbered nth number) d = absurd (true≢false d)
addressed (Imaged nth number) d = refl
addressed Damaged d = absurd (true≢false d)

module _ (a : ℕ) (turn : Turn) (f : Field) (fs : List Field) (t : in_turn turn (f ∷ fs) ≡ true) where
  six_long : eqb f.tag 1 ≡ true → eqb (length f.value) 6 ≡ true
  unfolding after
  six_long e = held (eqb (length f.value) 6) (after_address turn) (ap is_damaged (sym (by_tag 1 turn f e)) ∙ not-damaged turn f fs t)

  after-card : eqb f.tag 1 ≡ true → after turn f ≡ Addressed
  unfolding after
  after-card e =
      let p : after turn f ≡ after_address turn = by_tag 1 turn f e ∙ ap (λ (b : Bool). cond b (after_address turn) Damaged) (six_long e) in
      p ∙ addressed turn (ap is_damaged (sym p) ∙ not-damaged turn f fs t)

  card-here : eqb f.tag 1 ≡ true → is_card a f ≡ true → Listed a (f ∷ fs)
  unfolding without_version card_place bytes_of
  card-here e c =
      let s : length f.value ≡ 6 = eqb-true (length f.value) 6 (six_long e) in
      let n : size_of f ≡ 9 = omega arith in
      record {
        before = [];
        card = f;
        rest = fs;
        are = refl;
        size = s;
        oldest = oldest_of fs (ap (λ (next : Turn). in_turn next fs) (sym (after-card e)) ∙ next-turn turn f fs t);
        gone = ap (λ (b : Bool). cond b (cond (leaves (versions_from 0 fs)) (without_oldest fs) (f ∷ without_oldest fs)) (f ∷ without_version a fs)) c;
        place = λ tail. ap (λ (b : Bool). cond b (size_of f) (size_of f + card_place a (fs ++ tail))) c ∙ n;
      }

  card-on : is_card a f ≡ false → Listed a fs → Listed a (f ∷ fs)
  unfolding without_version card_place
  card-on c l =
      record {
        before = f ∷ l.before;
        card = l.card;
        rest = l.rest;
        are = ap (λ (x : List Field). f ∷ x) l.are;
        size = l.size;
        oldest = l.oldest;
        gone =
            ap (λ (b : Bool). cond b (cond (leaves (versions_from 0 fs)) (without_oldest fs) (f ∷ without_oldest fs)) (f ∷ without_version a fs)) c
            ∙ ap (λ (x : List Field). f ∷ x) l.gone;
        place = λ tail.
            let e : size_of f + (length (bytes_of l.before) + 9) ≡ length (bytes_of (f ∷ l.before)) + 9 = omega (arith, size-on f l.before) in
            ap (λ (b : Bool). cond b (size_of f) (size_of f + card_place a (fs ++ tail))) c
            ∙ ap (λ (n : ℕ). size_of f + n) (l.place tail)
            ∙ e;
      }

  card-if : (b c : Bool) → eqb f.tag 1 ≡ b → eqb (address_of f.value) a ≡ c
      → is_among a (cond b (address_of f.value ∷ addresses_of fs) (addresses_of fs)) ≡ true
      → (is_among a (addresses_of fs) ≡ true → Listed a fs) → Listed a (f ∷ fs)
  card-if true true e d l ih = card-here e (ap₂ (λ (x y : Bool). x && y) e d)
  card-if true false e d l ih =
      card-on (ap₂ (λ (x y : Bool). x && y) e d) (ih (ap (λ (x : Bool). x || is_among a (addresses_of fs)) (sym d) ∙ l))
  card-if false c e d l ih = card-on (ap (λ (x : Bool). x && eqb (address_of f.value) a) e) (ih l)

pub listed_of : (a : ℕ) (fs : List Field) (turn : Turn) → in_turn turn fs ≡ true → is_among a (addresses_of fs) ≡ true → Listed a fs
unfolding addresses_of
listed_of a [] turn t l = absurd (false≢true l)
listed_of a (f ∷ fs) turn t l =
    card-if a turn f fs t (eqb f.tag 1) (eqb (address_of f.value) a) refl refl l
    (listed_of a fs (after turn f) (next-turn turn f fs t))
