-- The entries of the status stack as a list. Assumes nothing.
use mathlib.Core.Path.{◌≡◌, refl, sym, ◌∙◌}
use mathlib.Core.List.{List, [], ◌∷◌}
use Prim.Native.Nat.{ℕ, zero, suc, ◌+◌, ◌-◌, ◌<◌, ◌≤◌}
use native.Mathlib.Numerals.{add-one}
use native.Mathlib.Omega.{arith}
use borrow.Author.Tests.{lt-ltb}
use lib.Dec.{ltb}
use lib.ListN.{length, take, drop, get_or, set}
use lib.Seq.{length-take-le, take-nil, take-suc-set}
use Rattle.store.specs.Store.{shifted}
use Rattle.store.proofs.Laws.{part_shifted}
use Rattle.transmit_rules.specs.Stack.{stack, Few, top, some, added, rest}
use Rattle.transmit_rules.specs.declared.Statuses.{Statuses}

-- as many statuses as the count says
pub stack-length : (s : Statuses) → length s.entries ≡ 31 → Few s → length (stack s) ≡ s.count
stack-length s len h = length-take-le s.count s.entries (omega arith)

-- one more, stored behind the others
pub stored : (xs : List ℕ) (n v : ℕ) → length xs ≡ 31 → n < 31 → take (n + 1) (set xs n v) ≡ added v (take n xs)
stored xs n v len h = let within : n < length xs = omega arith in rw (add-one n, take-suc-set)

-- the oldest, and whether there is one
pub top-none : (xs : List ℕ) (n : ℕ) → n ≡ 0 → top (take n xs) ≡ 0
unfolding top
top-none xs n e = rw e

pub top-some : (xs : List ℕ) (n : ℕ) → length xs ≡ 31 → (n ≡ 0 → ⊥) → top (take n xs) ≡ get_or xs 0 0
unfolding top
top-some [] n len h = absurd (omega arith)
top-some (x ∷ xs) zero len h = absurd (h refl)
top-some (x ∷ xs) (suc n) len h = refl

pub some_of : (xs : List ℕ) (n : ℕ) → length xs ≡ 31 → some (take n xs) ≡ ltb 0 n
unfolding some
some_of [] n len = absurd (omega arith)
some_of (x ∷ xs) zero len = refl
some_of (x ∷ xs) (suc n) len = sym (lt-ltb 0 (suc n) (omega arith))

rest-take : (xs : List ℕ) (n : ℕ) → take n (drop 1 xs) ≡ rest (take (suc n) xs)
unfolding rest
rest-take [] n = simp take-nil
rest-take (x ∷ xs) n = refl

-- where those behind the oldest of n entries have moved up by one
pub shifted_rest : (xs : List ℕ) (n : ℕ) → n ≤ length xs → 0 < n → take (n - 1) (shifted xs 0 1 (n - 1)) ≡ rest (take n xs)
shifted_rest xs zero within some = absurd (omega arith)
shifted_rest xs (suc n) within some =
    let e : suc n - 1 ≡ n = omega arith in
    rw e (part_shifted xs 0 1 n (omega arith) ∙ rest-take xs n)

pub rest-none : (xs : List ℕ) (n : ℕ) → n ≡ 0 → take n xs ≡ rest (take n xs)
unfolding rest
rest-none xs n e = rw e
