-- The bytes of fields one behind the other, and the versions behind a card's address.
-- Assumes nothing.
use Prim.Native.Nat.{ℕ, ◌+◌}
use mathlib.Core.Path.{◌≡◌, refl, sym, ap, ◌∙◌}
use mathlib.Core.Bool.{Bool, true, false, cond, ◌&&◌}
use mathlib.Core.List.{List, [], ◌∷◌, ◌++◌}
use native.Mathlib.Omega.{arith}
use lib.ListN.{length, take, drop}
use lib.Seq.{take-append-add, drop-append-add}
use lib.Dec.{eqb}
use Rattle.catalogue_rules.specs.Field.{Field, size_of, written}
use Rattle.catalogue_rules.specs.Turns.{address_of}
use Rattle.catalogue_rules.specs.Cards.{Version, versions_from, versions_at}
use Rattle.catalogue_put.proofs.Behind.{behind_card}

pub size_is : (f : Field) → length (written f) ≡ size_of f
size_is f = omega arith

-- Behind one field, and further behind.
pub take-size : (f : Field) (l : List ℕ) (n : ℕ) → take (size_of f + n) (written f ++ l) ≡ written f ++ take n l
take-size f l n = ap (λ (k : ℕ). take (k + n) (written f ++ l)) (sym (size_is f)) ∙ take-append-add (written f) l n

pub drop-size : (f : Field) (l : List ℕ) (n : ℕ) → drop (size_of f + n) (written f ++ l) ≡ drop n l
drop-size f l n = ap (λ (k : ℕ). drop (k + n) (written f ++ l)) (sym (size_is f)) ∙ drop-append-add (written f) l n

at_if : (b c : Bool) (fs rest : List Field) (vs : List Version) → versions_from 0 rest ≡ vs
    → versions_from 0 (cond (b && c) fs rest) ≡ cond b (cond c (versions_from 0 fs) vs) vs
at_if true true fs rest vs e = refl
at_if true false fs rest vs e = e
at_if false c fs rest vs e = e

pub versions-behind : (a : ℕ) (fs : List Field) → versions_from 0 (behind_card a fs) ≡ versions_at a fs
unfolding versions_at behind_card versions_from
versions-behind a [] = refl
versions-behind a (f ∷ fs) = at_if (eqb f.tag 1) (eqb (address_of f.value) a) fs (behind_card a fs) (versions_at a fs) (versions-behind a fs)
