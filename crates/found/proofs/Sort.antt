-- Ascending order: the least first, then the others in ascending order.
-- Assumes nothing.
use Prim.Native.Nat.{ℕ, suc, ◌<◌, ◌≤◌}
use mathlib.Core.Path.{◌≡◌, refl, sym, ◌∙◌, ap}
use mathlib.Core.Bool.{Bool, true, false, cond}
use mathlib.Core.List.{List, [], ◌∷◌}
use mathlib.Core.Logic.{inl, inr}
use native.Mathlib.Omega.{arith}
use lib.Dec.{eqb, ltb}
use lib.ListN.{length}
use borrow.Author.Tests.{lt-ltb, le-ltb, eq-eqb, ne_eqb}
use Rattle.found.specs.Theorems.{All, Distinct, insert, ascending}
use Rattle.found.proofs.Contend.{Some}

unfoldable pub others : ℕ → List ℕ → List ℕ
others m [] = []
others m (x ∷ xs) = cond (eqb x m) (others m xs) (x ∷ others m xs)

pub others_is : (m x : ℕ) (xs : List ℕ) → x ≡ m → others m (x ∷ xs) ≡ others m xs
unfolding others
others_is m x xs e = rw (eq-eqb x m e)

pub others-not : (m x : ℕ) (xs : List ℕ) → (x ≡ m → ⊥) → others m (x ∷ xs) ≡ x ∷ others m xs
unfolding others
others-not m x xs e = rw (ne_eqb x m e)

others-none : (m : ℕ) (xs : List ℕ) → All (λ y. m ≡ y → ⊥) xs → others m xs ≡ xs
unfolding others
others-none m [] a = refl
others-none m (x ∷ xs) (h, a) = others-not m x xs (λ e. h (sym e)) ∙ ap (λ (l : List ℕ). x ∷ l) (others-none m xs a)

pub all_others : (P : ℕ → Type 0) (m : ℕ) (xs : List ℕ) → All P xs → All P (others m xs)
unfolding others
all_others P m [] a = tt
all_others P m (x ∷ xs) (h, a) = go (eqb x m) (all_others P m xs a)
  where
    go : (b : Bool) → All P (others m xs) → All P (cond b (others m xs) (x ∷ others m xs))
    go true q = q
    go false q = (h, q)

pub distinct-others : (m : ℕ) (xs : List ℕ) → Distinct xs → Distinct (others m xs)
unfolding others
distinct-others m [] d = tt
distinct-others m (x ∷ xs) (h, d) = go (eqb x m) (distinct-others m xs d)
  where
    go : (b : Bool) → Distinct (others m xs) → Distinct (cond b (others m xs) (x ∷ others m xs))
    go true q = q
    go false q = (all_others (λ y. x ≡ y → ⊥) m xs h, q)

-- an example
in_order : ascending (7 ∷ 3 ∷ 1 ∷ []) ≡ 1 ∷ 3 ∷ 7 ∷ []
unfolding ascending insert
in_order = refl

insert_low : (m : ℕ) (ys : List ℕ) → All (λ y. m ≤ y) ys → insert m ys ≡ m ∷ ys
unfolding insert
insert_low m [] a = refl
insert_low m (y ∷ ys) (h, a) = rw (le-ltb y m h)

all_insert : (P : ℕ → Type 0) (x : ℕ) (ys : List ℕ) → P x → All P ys → All P (insert x ys)
unfolding insert
all_insert P x [] h a = (h, tt)
all_insert P x (y ∷ ys) h (q, a) = go (ltb y x) (all_insert P x ys h a)
  where
    go : (b : Bool) → All P (insert x ys) → All P (cond b (y ∷ insert x ys) (x ∷ (y ∷ ys)))
    go true r = (q, r)
    go false r = (h, (q, a))

all_ascending : (P : ℕ → Type 0) (xs : List ℕ) → All P xs → All P (ascending xs)
unfolding ascending
all_ascending P [] a = tt
all_ascending P (x ∷ xs) (h, a) = all_insert P x (ascending xs) h (all_ascending P xs a)

length-insert : (x : ℕ) (ys : List ℕ) → length (insert x ys) ≡ suc (length ys)
unfolding insert
length-insert x [] = refl
length-insert x (y ∷ ys) = go (ltb y x) (length-insert x ys)
  where
    go : (b : Bool) → length (insert x ys) ≡ suc (length ys) → length (cond b (y ∷ insert x ys) (x ∷ (y ∷ ys))) ≡ suc (suc (length ys))
    go true e = ap suc e
    go false e = refl

pub length-ascending : (xs : List ℕ) → length (ascending xs) ≡ length xs
unfolding ascending
length-ascending [] = refl
length-ascending (x ∷ xs) = length-insert x (ascending xs) ∙ ap suc (length-ascending xs)

differs : (x m : ℕ) (ys : List ℕ) → All (λ y. x ≡ y → ⊥) ys → Some (λ y. y ≡ m) ys → x ≡ m → ⊥
differs x m [] q r e = r
differs x m (y ∷ ys) (h, q) (inl r) e = h (e ∙ sym r)
differs x m (y ∷ ys) (h, q) (inr r) e = differs x m ys q r e

insert_past : (x m : ℕ) (ys : List ℕ) → m < x → insert x (m ∷ ys) ≡ m ∷ insert x ys
unfolding insert
insert_past x m ys h = rw (lt-ltb m x h)

pub least_first : (m : ℕ) (xs : List ℕ) → Distinct xs → Some (λ x. x ≡ m) xs → All (λ x. m ≤ x) xs → ascending xs ≡ m ∷ ascending (others m xs)
unfolding ascending
least_first m [] d s a = absurd s
least_first m (x ∷ xs) (h, d) (inl e) (l, a) =
    rw (others_is m x xs e, e, others-none m xs (rw e at h)) (insert_low m (ascending xs) (all_ascending (λ y. m ≤ y) xs a))
least_first m (x ∷ xs) (h, d) (inr s) (l, a) =
    let n : x ≡ m → ⊥ = differs x m xs h s in
    ap (insert x) (least_first m xs d s a) ∙ insert_past x m (ascending (others m xs)) (omega arith) ∙ ap (λ (ys : List ℕ). m ∷ ascending ys) (sym (others-not m x xs n))
