-- Addresses: one more at the end, or one less anywhere.
-- Assumes nothing.
use Prim.Native.Nat.{ℕ, ◌≤◌}
use mathlib.Core.Path.{◌≡◌, refl, sym, ap, ◌∙◌}
use mathlib.Core.Bool.{Bool, true, false, cond, ◌||◌}
use mathlib.Core.List.{List, [], ◌∷◌, ◌++◌}
use native.Mathlib.Omega.{arith}
use borrow.Author.Tests.{eqb-true, ne_eqb, eqb-false}
use lib.ListN.{length}
use lib.Dec.{eqb}
use Rattle.catalogue_rules.specs.Field.{Field}
use Rattle.catalogue_rules.specs.Turns.{address_of}
use Rattle.catalogue_rules.specs.Reading.{addresses_of, is_among, any_twice}
use Rattle.catalogue_rules.proofs.Bools.{or_left, or_right}

or_none : (a b : Bool) → a ≡ false → b ≡ false → a || b ≡ false
or_none a b d e = rw d e

-- ---- one less

pub data Part : List ℕ → List ℕ → Type 0 where
  all : {l : List ℕ} → Part l l
  skip : {a : ℕ} {l : List ℕ} → Part l (a ∷ l)
  keep : {a : ℕ} {l m : List ℕ} → Part l m → Part (a ∷ l) (a ∷ m)

part_among : {l m : List ℕ} → Part l m → (a : ℕ) → is_among a m ≡ false → is_among a l ≡ false
part_among all a e = e
part_among (skip {a = b} {l}) a e = or_right (eqb b a) (is_among a l) e
part_among (keep {a = b} {l} {m} p) a e =
    or_none (eqb b a) (is_among a l) (or_left (eqb b a) (is_among a m) e) (part_among p a (or_right (eqb b a) (is_among a m) e))

pub part_apart : {l m : List ℕ} → Part l m → any_twice m ≡ false → any_twice l ≡ false
unfolding any_twice
part_apart all e = e
part_apart (skip {a = b} {l}) e = or_right (is_among b l) (any_twice l) e
part_apart (keep {a = b} {l} {m} p) e =
    or_none (is_among b l) (any_twice l) (part_among p b (or_left (is_among b m) (any_twice m) e)) (part_apart p (or_right (is_among b m) (any_twice m) e))

pub part_length : {l m : List ℕ} → Part l m → length l ≤ length m
part_length all = omega arith
part_length skip = omega arith
part_length (keep p) = omega (arith, part_length p)

-- ---- one more

same_way : (a b : ℕ) → eqb a b ≡ false → eqb b a ≡ false
same_way a b e = ne_eqb b a (λ h. eqb-false a b e (sym h))

among_more : (a b : ℕ) (l : List ℕ) → is_among b l ≡ false → eqb a b ≡ false → is_among b (l ++ (a ∷ [])) ≡ false
among_more a b [] n e = or_none (eqb a b) false e refl
among_more a b (c ∷ l) n e =
    or_none (eqb c b) (is_among b (l ++ (a ∷ []))) (or_left (eqb c b) (is_among b l) n) (among_more a b l (or_right (eqb c b) (is_among b l) n) e)

pub apart_more : (a : ℕ) (l : List ℕ) → any_twice l ≡ false → is_among a l ≡ false → any_twice (l ++ (a ∷ [])) ≡ false
unfolding any_twice
apart_more a [] t n = refl
apart_more a (b ∷ l) t n =
    or_none (is_among b (l ++ (a ∷ []))) (any_twice (l ++ (a ∷ [])))
    (among_more a b l (or_left (is_among b l) (any_twice l) t) (same_way b a (or_left (eqb b a) (is_among a l) n)))
    (apart_more a l (or_right (is_among b l) (any_twice l) t) (or_right (eqb b a) (is_among a l) n))

-- ---- the addresses behind a field

module _ (f : Field) (x y : List Field) where
  pub same-behind : addresses_of x ≡ addresses_of y → addresses_of (f ∷ x) ≡ addresses_of (f ∷ y)
  unfolding addresses_of
  same-behind e = ap (λ (l : List ℕ). cond (eqb f.tag 1) (address_of f.value ∷ l) l) e

  part-if : (b : Bool) → Part (addresses_of x) (addresses_of y)
      → Part (cond b (address_of f.value ∷ addresses_of x) (addresses_of x)) (cond b (address_of f.value ∷ addresses_of y) (addresses_of y))
  part-if true p = keep p
  part-if false p = p

  pub part-behind : Part (addresses_of x) (addresses_of y) → Part (addresses_of (f ∷ x)) (addresses_of (f ∷ y))
  unfolding addresses_of
  part-behind p = part-if (eqb f.tag 1) p

-- A field less.
less-if : (b : Bool) (a : ℕ) (l : List ℕ) → Part l (cond b (a ∷ l) l)
less-if true a l = skip
less-if false a l = all

pub without : (f : Field) (fs : List Field) → Part (addresses_of fs) (addresses_of (f ∷ fs))
unfolding addresses_of
without f fs = less-if (eqb f.tag 1) (address_of f.value) (addresses_of fs)

-- A field that is no address.
pub no_address : (t : ℕ) (f : Field) (fs : List Field) → eqb f.tag t ≡ true → eqb t 1 ≡ false → addresses_of fs ≡ addresses_of (f ∷ fs)
unfolding addresses_of
no_address t f fs e n =
    ap (λ (b : Bool). cond b (address_of f.value ∷ addresses_of fs) (addresses_of fs)) (sym (ap (λ (m : ℕ). eqb m 1) (eqb-true f.tag t e) ∙ n))

append-if : (b : Bool) (a : ℕ) (l m n : List ℕ) → n ≡ l ++ m → cond b (a ∷ n) n ≡ cond b (a ∷ l) l ++ m
append-if true a l m n e = ap (λ (r : List ℕ). a ∷ r) e
append-if false a l m n e = e

pub addresses_append : (fs gs : List Field) → addresses_of (fs ++ gs) ≡ addresses_of fs ++ addresses_of gs
unfolding addresses_of
addresses_append [] gs = refl
addresses_append (f ∷ fs) gs = append-if (eqb f.tag 1) (address_of f.value) (addresses_of fs) (addresses_of gs) (addresses_of (fs ++ gs)) (addresses_append fs gs)
