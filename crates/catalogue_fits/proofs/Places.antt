-- A card that is listed has a place, and one of its places has a number exactly if one of its versions has it.
-- Assumes nothing.
use Prim.Native.Nat.{ℕ, ◌+◌}
use mathlib.Core.Path.{◌≡◌, refl, sym, ap, ◌∙◌}
use mathlib.Core.Bool.{Bool, true, false, cond, ◌&&◌, ◌||◌, not}
use mathlib.Core.List.{List, [], ◌∷◌}
use lib.ListN.{length}
use lib.Dec.{eqb}
use Rattle.bits.proofs.Tests.{never, neither}
use Rattle.std.specs.Prelude.{Result, Ok, Err}
use Rattle.refusal.specs.declared.Refusal.{Refusal}
use Rattle.refusal.specs.declared.Refusal.TheVariants.{NoSuchCard}
use Rattle.catalogue_rules.specs.Field.{Field, size_of, number_at, fields_of, left_of}
use Rattle.catalogue_rules.specs.Turns.{address_of}
use Rattle.catalogue_rules.specs.Reading.{catalogue, parsed, addresses_of, is_among}
use Rattle.catalogue_rules.specs.Cards.{Version, versions_from, versions_at}
use Rattle.catalogue_rules.specs.declared.Span.{Span}
use Rattle.catalogue_rules.specs.Lookup.{span, Spot, spot, spots_from, spots_at, last_spot, numbered_spot, where_sound}
use Rattle.catalogue_rules.proofs.Listed.{First, some, listed_has}
use Rattle.catalogue_fits.specs.Tests.{because, is_numbered}
use Rattle.catalogue_fits.specs.Fits.{outcome_of}
use Rattle.catalogue_fits.proofs.Readings.{faults}

-- ---- as many places as versions, with their numbers

data Alike : List Spot → List Version → Type 0 where
  none : Alike [] []
  one : {ss : List Spot} {vs : List Version} (n start size : ℕ) (image : List ℕ) → Alike ss vs
      → Alike (spot n start size ∷ ss) (record { number = n; image = image } ∷ vs)

from-if : (a b c : Bool) (n start size : ℕ) (image : List ℕ) {xs ys : List Spot} {vs ws : List Version} → Alike xs vs → Alike ys ws
    → Alike (cond a [] (cond b xs (cond c (spot n start size ∷ ys) ys))) (cond a [] (cond b vs (cond c (record { number = n; image = image } ∷ ws) ws)))
from-if true b c n start size image x y = none
from-if false true c n start size image x y = x
from-if false false true n start size image x y = one n start size image y
from-if false false false n start size image x y = y

alike_from : (fs : List Field) (at n : ℕ) → Alike (spots_from at n fs) (versions_from n fs)
unfolding spots_from versions_from
alike_from [] at n = none
alike_from (f ∷ fs) at n =
    from-if (eqb f.tag 1) (eqb f.tag 2) (eqb f.tag 3) n (at + 3) (length f.value) f.value
    (alike_from fs (at + size_of f) (number_at f.value 0)) (alike_from fs (at + size_of f) n)

card-if : (a b : Bool) {xs ys : List Spot} {vs ws : List Version} → Alike xs vs → Alike ys ws → Alike (cond (a && b) xs ys) (cond a (cond b vs ws) ws)
card-if true true x y = x
card-if true false x y = y
card-if false b x y = y

alike : (a : ℕ) (fs : List Field) (at : ℕ) → Alike (spots_at a at fs) (versions_at a fs)
unfolding spots_at versions_at
alike a [] at = none
alike a (f ∷ fs) at = card-if (eqb f.tag 1) (eqb (address_of f.value) a) (alike_from fs (at + size_of f) 0) (alike a fs (at + size_of f))

-- ---- what is found, behind 17

at_place : (room twice : Bool) (p : Span) → outcome_of (where_sound room twice (Ok p)) ≡ faults room twice
at_place true true p = refl
at_place true false p = refl
at_place false twice p = refl

last_found : (room twice : Bool) (p : Span) (ss : List Spot) → outcome_of (where_sound room twice (last_spot (Ok p) ss)) ≡ faults room twice
unfolding last_spot
last_found room twice p [] = at_place room twice p
last_found room twice p (s ∷ ss) = last_found room twice (span s.start s.size) ss

last_some : (room twice : Bool) {ss : List Spot} {vs : List Version} → Alike ss vs
    → outcome_of (where_sound room twice (last_spot (Err NoSuchCard) ss)) ≡ cond (not (some vs)) (because NoSuchCard) (faults room twice)
unfolding last_spot some
last_some room twice none = refl
last_some room twice (one {ss} n start size image l) = last_found room twice (span start size) ss

numbered-if : (b more room twice : Bool) (here : Span) (p : Result Span Refusal) → outcome_of (where_sound room twice p) ≡ cond (not more) (because NoSuchCard) (faults room twice)
    → outcome_of (where_sound room twice (cond b (Ok here) p)) ≡ cond (not (b || more)) (because NoSuchCard) (faults room twice)
numbered-if true more room twice here p e = at_place room twice here
numbered-if false more room twice here p e = e

numbered-found : (n : ℕ) (room twice : Bool) {ss : List Spot} {vs : List Version} → Alike ss vs
    → outcome_of (where_sound room twice (numbered_spot n ss)) ≡ cond (not (is_numbered n vs)) (because NoSuchCard) (faults room twice)
unfolding numbered_spot is_numbered
numbered-found n room twice none = refl
numbered-found n room twice (one {ss} {vs} m start size image l) =
    numbered-if (eqb m n) (is_numbered n vs) room twice (span start size) (numbered_spot n ss) (numbered-found n room twice l)

-- ---- a card is listed exactly if it has a version

absent_if : (t b : Bool) (x a : ℕ) (rest : List ℕ) (vs ws : List Version) → eqb x a ≡ b → is_among a (cond t (x ∷ rest) rest) ≡ false
    → (is_among a rest ≡ false → some ws ≡ false) → some (cond t (cond b vs ws) ws) ≡ false
absent_if true true x a rest vs ws q e k = never (sym (neither (eqb x a) (is_among a rest) e).0 ∙ q)
absent_if true false x a rest vs ws q e k = k (neither (eqb x a) (is_among a rest) e).1
absent_if false b x a rest vs ws q e k = k e

absent : (a : ℕ) (fs : List Field) → is_among a (addresses_of fs) ≡ false → some (versions_at a fs) ≡ false
unfolding some versions_at addresses_of
absent a [] e = refl
absent a (f ∷ fs) e =
    absent_if (eqb f.tag 1) (eqb (address_of f.value) a) (address_of f.value) a (addresses_of fs) (versions_from 0 fs) (versions_at a fs) refl e (absent a fs)

first_some : {vs : List Version} → First vs → some vs ≡ true
unfolding some
first_some f = ap some f.are

module _ (file : List ℕ) (fs : List Field) (q : parsed file ≡ catalogue fs) (a : ℕ) where
  some-if : (t : Bool) → is_among a (addresses_of fs) ≡ t → some (versions_at a fs) ≡ t
  some-if true e = first_some (listed_has a (fields_of file) 0 (left_of file) fs q e)
  some-if false e = absent a fs e

  pub latest-found : (room twice : Bool) → outcome_of (where_sound room twice (last_spot (Err NoSuchCard) (spots_at a 0 fs))) ≡ cond (not (is_among a (addresses_of fs))) (because NoSuchCard) (faults room twice)
  latest-found room twice =
      last_some room twice (alike a fs 0) ∙ ap (λ (t : Bool). cond (not t) (because NoSuchCard) (faults room twice)) (some-if (is_among a (addresses_of fs)) refl)

pub given-found : (a n : ℕ) (fs : List Field) (room twice : Bool)
    → outcome_of (where_sound room twice (numbered_spot n (spots_at a 0 fs))) ≡ cond (not (is_numbered n (versions_at a fs))) (because NoSuchCard) (faults room twice)
given-found a n fs room twice = numbered-found n room twice (alike a fs 0)
