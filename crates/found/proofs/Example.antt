-- Fresh cards are found, by the theorem: a run of so many accesses is not computed. That their addresses differ is one computed test.
-- Assumes nothing.
use Prim.Native.Nat.{ℕ, ◌<◌, ◌≤◌}
use native.Mathlib.Omega.{arith}
use mathlib.Core.Path.{◌≡◌, refl, ◌∙◌, ap}
use mathlib.Core.Bool.{Bool, true, false, cond, false≢true}
use mathlib.Core.List.{List, [], ◌∷◌, map}
use lib.Dec.{eqb}
use lib.ListN.{length}
use borrow.Author.Tests.{eqb-false}
use Rattle.port_rules.specs.Card.{id_fresh}
use Rattle.found.specs.Theorems.{All, Distinct, station, Findable, FindsAll, ascending, insert, place, fresh_cards, search_of, FreshCardsAreFound}
use Rattle.found.proofs.Run.{all_map}
use Rattle.found.proofs.Found.{finds_every_card}

-- x is not in the list; no number is in it twice
abbrev absent : ℕ → List ℕ → Bool
absent x [] = true
absent x (y ∷ ys) = cond (eqb x y) false (absent x ys)

abbrev differing : List ℕ → Bool
differing [] = true
differing (x ∷ xs) = cond (absent x xs) (differing xs) false

not_there : (x : ℕ) (xs : List ℕ) → absent x xs ≡ true → All (λ y. x ≡ y → ⊥) xs
not_there x [] t = tt
not_there x (y ∷ ys) t = go (eqb x y) refl t (not_there x ys)
  where
    go : (b : Bool) → eqb x y ≡ b → cond b false (absent x ys) ≡ true → (absent x ys ≡ true → All (λ z. x ≡ z → ⊥) ys) → (x ≡ y → ⊥) × All (λ z. x ≡ z → ⊥) ys
    go true e t r = absurd (false≢true t)
    go false e t r = (eqb-false x y e, r t)

differ : (xs : List ℕ) → differing xs ≡ true → Distinct xs
differ [] t = tt
differ (x ∷ xs) t = go (absent x xs) refl t (differ xs)
  where
    go : (b : Bool) → absent x xs ≡ b → cond b (differing xs) false ≡ true → (differing xs ≡ true → Distinct xs) → All (λ y. x ≡ y → ⊥) xs × Distinct xs
    go true e t r = (not_there x xs e, r t)
    go false e t r = absurd (false≢true t)

findable : (n : ℕ) → n < 65536 → Findable 1 (id_fresh (0x0200 ∷ 0 ∷ n ∷ []))
findable n h = record { fits0 = omega arith; fits1 = omega arith; fits2 = h; not_ones = λ e. omega arith; here = λ e. absurd (false≢true e) }

finds : (ends : List ℕ) → length (fresh_cards ends) ≤ 7 → differing (map station (fresh_cards ends)) ≡ true → All (λ n. n < 65536) ends → FindsAll 1 (fresh_cards ends) (search_of ends)
finds ends few t small = finds_every_card 1 (fresh_cards ends) (record {
  port = omega arith;
  few = few;
  distinct = differ (map station (fresh_cards ends)) t;
  findable = all_map {P = λ n. n < 65536} (Findable 1) (λ n. id_fresh (0x0200 ∷ 0 ∷ n ∷ [])) findable ends small;
})

two : FindsAll 1 (fresh_cards (1 ∷ 0 ∷ [])) (search_of (1 ∷ 0 ∷ []))
two = finds (1 ∷ 0 ∷ []) (omega arith) refl (omega arith, (omega arith, tt))

sorted : (search_of (1 ∷ 0 ∷ [])).answer ≡ 0x0200_0000_0000 ∷ 0x0200_0000_0001 ∷ []
unfolding ascending insert
sorted = two.found

pub fresh_cards_are_found_lem : FreshCardsAreFound
unfolding place
fresh_cards_are_found_lem = record {
  none = (finds [] (omega arith) refl tt).cost;
  two = two.cost;
  seven = (finds (7 ∷ 3 ∷ 1 ∷ 5 ∷ 2 ∷ 6 ∷ 4 ∷ []) (omega arith) refl (omega arith, (omega arith, (omega arith, (omega arith, (omega arith, (omega arith, (omega arith, tt)))))))).cost;
  found = sorted;
  tags = two.tags ∙ ap (λ (xs : List ℕ). map (λ s. place (station s) xs) (fresh_cards (1 ∷ 0 ∷ []))) sorted;
}
