-- Forty-eight ones in a list of addresses do not matter to the rounds.
-- Assumes nothing.
use Prim.Native.Nat.{ℕ, zero, suc, min, ◌≤◌}
use mathlib.Core.Path.{◌≡◌, refl, sym, ◌∙◌, ap}
use mathlib.Core.Bool.{Bool, true, false, cond}
use mathlib.Core.List.{List, [], ◌∷◌, ◌++◌}
use native.Mathlib.Omega.{arith}
use lib.Dec.{eqb}
use lib.ListN.{replicate}
use borrow.Author.Tests.{eqb-true}
use Rattle.port_rules.specs.Search.{all_ones}
use Rattle.lent_port.specs.Roll.{least, struck, found}

-- the addresses of a list that are not all ones
unfoldable pub real : List ℕ → List ℕ
real [] = []
real (x ∷ xs) = cond (eqb x all_ones) (real xs) (x ∷ real xs)

pub real_ones : (xs : List ℕ) → real (all_ones ∷ xs) ≡ real xs
unfolding real
real_ones xs = refl

pub real_same : (x : ℕ) (xs ys : List ℕ) → real xs ≡ real ys → real (x ∷ xs) ≡ real (x ∷ ys)
unfolding real
real_same x xs ys e = ap (λ (l : List ℕ). cond (eqb x all_ones) l (x ∷ l)) e

pub real_more : (n : ℕ) (xs : List ℕ) → real (xs ++ replicate n all_ones) ≡ real xs
unfolding real
real_more zero [] = refl
real_more (suc n) [] = real_ones (replicate n all_ones) ∙ real_more n []
real_more n (x ∷ xs) = real_same x (xs ++ replicate n all_ones) xs (real_more n xs)

pub least-top : (xs : List ℕ) → least xs ≤ all_ones
unfolding least
least-top [] = omega arith
least-top (x ∷ xs) = omega (arith, least-top xs)

least_real : (xs : List ℕ) → least (real xs) ≡ least xs
unfolding real least
least_real [] = refl
least_real (x ∷ xs) = go (eqb x all_ones) refl (least_real xs)
  where
    go : (b : Bool) → eqb x all_ones ≡ b → least (real xs) ≡ least xs → least (cond b (real xs) (x ∷ real xs)) ≡ min x (least xs)
    go true e r = let q : x ≡ all_ones = eqb-true _ _ e in let t : least xs ≤ all_ones = least-top xs in r ∙ omega arith
    go false e r = ap (min x) r

struck_real : (a : ℕ) (xs : List ℕ) → real (struck a (real xs)) ≡ real (struck a xs)
unfolding real struck
struck_real a [] = refl
struck_real a (x ∷ xs) = go (eqb x all_ones) refl (struck_real a xs)
  where
    either : (b : Bool) → x ≡ all_ones → cond b all_ones x ≡ all_ones
    either true e = refl
    either false e = e

    go : (b : Bool) → eqb x all_ones ≡ b → real (struck a (real xs)) ≡ real (struck a xs) → real (struck a (cond b (real xs) (x ∷ real xs))) ≡ real (cond (eqb x a) all_ones x ∷ struck a xs)
    go true e r = r ∙ sym (real_ones (struck a xs)) ∙ ap (λ (y : ℕ). real (y ∷ struck a xs)) (sym (either (eqb x a) (eqb-true _ _ e)))
    go false e r = real_same (cond (eqb x a) all_ones x) (struck a (real xs)) (struck a xs) r

pub found_real : (free : ℕ) (xs ys : List ℕ) → real xs ≡ real ys → found free xs ≡ found free ys
unfolding found
found_real zero xs ys e = refl
found_real (suc free) xs ys e =
    let l : least xs ≡ least ys = sym (least_real xs) ∙ ap least e ∙ least_real ys in
    let s : real (struck (least xs) xs) ≡ real (struck (least ys) ys) = sym (struck_real (least xs) xs) ∙ (λ i. real (struck (l i) (e i))) ∙ struck_real (least ys) ys in
    λ i. cond (eqb (l i) all_ones) [] (l i ∷ found_real free (struck (least xs) xs) (struck (least ys) ys) s i)
