-- What is read is the fields before a right count, with nothing behind it.
-- Assumes nothing.
use Prim.Native.Nat.{ℕ, suc, ◌+◌}
use mathlib.Core.Path.{◌≡◌, refl, sym, ap, ap₂, ◌∙◌}
use mathlib.Core.Bool.{Bool, true, false, cond, ◌&&◌, false≢true}
use mathlib.Core.List.{List, [], ◌∷◌, ◌++◌}
use native.Mathlib.Omega.{arith}
use borrow.Author.Tests.{eqb-true}
use lib.ListN.{length}
use lib.Dec.{eqb, leb}
use Rattle.refusal.specs.declared.Refusal.{Refusal}
use Rattle.refusal.specs.declared.Refusal.TheVariants.{FieldDamaged}
use Rattle.catalogue_rules.specs.Field.{Field, field, number_at}
use Rattle.catalogue_rules.specs.declared.Turn.{Turn}
use Rattle.catalogue_rules.specs.Turns.{address_of, after, may_end, is_damaged}
use Rattle.catalogue_rules.specs.Reading.{Reading, catalogue, refused, with, is_last, ends, reading, addresses_of, any_twice, roomy}
use Rattle.catalogue_rules.proofs.Bools.{and_left, and_right}

-- What was read behind n fields: the fields before a count of two bytes that says how many, with nothing behind it.
pub record Came (n : ℕ) (gs : List Field) (left : List ℕ) (fs : List Field) : Type 0 where
  pub value : List ℕ
  pub are : gs ≡ fs ++ (field 4 value ∷ [])
  pub none : left ≡ []
  pub two : length value ≡ 2
  pub count : number_at value 0 ≡ n + length fs

is_last_fields : (gs : List Field) (left : List ℕ) → is_last gs left ≡ true → gs ≡ []
is_last_fields [] [] e = refl
is_last_fields [] (b ∷ left) e = refl
is_last_fields (g ∷ gs) left e = absurd (false≢true e)

is_last_left : (gs : List Field) (left : List ℕ) → is_last gs left ≡ true → left ≡ []
is_last_left [] [] e = refl
is_last_left [] (b ∷ left) e = absurd (false≢true e)
is_last_left (g ∷ gs) left e = absurd (false≢true e)

came_last : (t : Bool) (turn : Turn) (n : ℕ) (f : Field) (gs : List Field) (left : List ℕ) (fs : List Field)
    → ends turn n f (is_last gs left) ≡ t → f.tag ≡ 4
    → cond t (catalogue []) (refused FieldDamaged) ≡ catalogue fs → Came n (f ∷ gs) left fs
came_last false turn n f gs left fs t four e = let z : ◌≡◌ {A = ℕ} 0 1 = cc in absurd (omega arith)
came_last true turn n f gs left fs t four e =
    let q : fs ≡ [] = cc in
    let a : eqb (length f.value) 2 && (eqb (number_at f.value 0) n && is_last gs left) ≡ true = and_right (may_end turn) (eqb (length f.value) 2 && (eqb (number_at f.value 0) n && is_last gs left)) t in
    let two : length f.value ≡ 2 = eqb-true (length f.value) 2 (and_left (eqb (length f.value) 2) (eqb (number_at f.value 0) n && is_last gs left) a) in
    let b : eqb (number_at f.value 0) n && is_last gs left ≡ true = and_right (eqb (length f.value) 2) (eqb (number_at f.value 0) n && is_last gs left) a in
    let count : number_at f.value 0 ≡ n = eqb-true (number_at f.value 0) n (and_left (eqb (number_at f.value 0) n) (is_last gs left) b) in
    let last : is_last gs left ≡ true = and_right (eqb (number_at f.value 0) n) (is_last gs left) b in
    let empty : length fs ≡ 0 = ap length q in
    record {
      value = f.value;
      are =
          ap₂ (λ (x : Field) (xs : List Field). x ∷ xs) (ap (λ (t : ℕ). field t f.value) four) (is_last_fields gs left last)
          ∙ ap (λ (xs : List Field). xs ++ (field 4 f.value ∷ [])) (sym q);
      none = is_last_left gs left last;
      two = two;
      count = omega arith;
    }

came_on : (r : Reading) (n : ℕ) (f : Field) (gs : List Field) (left : List ℕ) (fs : List Field)
    → ((hs : List Field) → r ≡ catalogue hs → Came (n + 1) gs left hs) → with f r ≡ catalogue fs → Came n (f ∷ gs) left fs
came_on (refused why) n f gs left fs ih e = let z : ◌≡◌ {A = ℕ} 0 1 = cc in absurd (omega arith)
came_on (catalogue hs) n f gs left fs ih e =
    let q : f ∷ hs ≡ fs = cc in
    let c : Came (n + 1) gs left hs = ih hs refl in
    let l : length fs ≡ suc (length hs) = ap length (sym q) in
    let k : number_at c.value 0 ≡ n + 1 + length hs = c.count in
    record {
      value = c.value;
      are = ap (λ (xs : List Field). f ∷ xs) c.are ∙ ap (λ (xs : List Field). xs ++ (field 4 c.value ∷ [])) q;
      none = c.none;
      two = c.two;
      count = omega arith;
    }

came_if : (a d : Bool) (turn : Turn) (n : ℕ) (f : Field) (gs : List Field) (left : List ℕ) (fs : List Field)
    → eqb f.tag 4 ≡ a
    → ((hs : List Field) → reading (after turn f) (n + 1) gs left ≡ catalogue hs → Came (n + 1) gs left hs)
    → cond a (cond (ends turn n f (is_last gs left)) (catalogue []) (refused FieldDamaged))
    (cond d (refused FieldDamaged) (with f (reading (after turn f) (n + 1) gs left)))
    ≡ catalogue fs
    → Came n (f ∷ gs) left fs
came_if true d turn n f gs left fs a ih e = came_last (ends turn n f (is_last gs left)) turn n f gs left fs refl (eqb-true f.tag 4 a) e
came_if false true turn n f gs left fs a ih e = let z : ◌≡◌ {A = ℕ} 0 1 = cc in absurd (omega arith)
came_if false false turn n f gs left fs a ih e = came_on (reading (after turn f) (n + 1) gs left) n f gs left fs ih e

pub came : (gs : List Field) (turn : Turn) (n : ℕ) (left : List ℕ) (fs : List Field) → reading turn n gs left ≡ catalogue fs → Came n gs left fs
unfolding reading
came [] turn n left fs e = let z : ◌≡◌ {A = ℕ} 0 1 = cc in absurd (omega arith)
came (f ∷ gs) turn n left fs e =
    came_if (eqb f.tag 4) (is_damaged (after turn f)) turn n f gs left fs refl (λ hs h. came gs (after turn f) (n + 1) left hs h) e

roomy-if : (a b : Bool) (fs gs : List Field) (why more : Refusal) → cond a (cond b (refused why) (catalogue gs)) (refused more) ≡ catalogue fs → gs ≡ fs
roomy-if true true fs gs why more e = let z : ◌≡◌ {A = ℕ} 0 1 = cc in absurd (omega arith)
roomy-if true false fs gs why more e = cc
roomy-if false b fs gs why more e = let z : ◌≡◌ {A = ℕ} 0 1 = cc in absurd (omega arith)

pub roomy-only : (r : Reading) (fs : List Field) → roomy r ≡ catalogue fs → r ≡ catalogue fs
roomy-only (catalogue gs) fs e = ap catalogue (roomy-if (leb (length (addresses_of gs)) 64) (any_twice (addresses_of gs)) fs gs _ _ e)
roomy-only (refused why) fs e = e

-- The count is no card.
addresses_append : (fs : List Field) (v : List ℕ) → addresses_of (fs ++ (field 4 v ∷ [])) ≡ addresses_of fs
unfolding addresses_of
addresses_append [] v = refl
addresses_append (f ∷ fs) v = ap (λ (l : List ℕ). cond (eqb f.tag 1) (address_of f.value ∷ l) l) (addresses_append fs v)

pub same_addresses : (gs : List Field) (turn : Turn) (n : ℕ) (left : List ℕ) (fs : List Field) → reading turn n gs left ≡ catalogue fs → addresses_of gs ≡ addresses_of fs
same_addresses gs turn n left fs e =
    let c : Came n gs left fs = came gs turn n left fs e in
    ap addresses_of c.are ∙ addresses_append fs c.value
