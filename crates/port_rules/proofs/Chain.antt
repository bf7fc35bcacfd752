-- A table that starts at FFh and whose each byte is the next of the one before, by one test that antt computes in as many steps as there are bytes.
-- Assumes nothing.
use mathlib.Core.Path.{◌≡◌, refl, sym, ◌∙◌, ap}
use mathlib.Core.Bool.{Bool, true, false, cond, false≢true, ◌&&◌}
use mathlib.Core.List.{List, [], ◌∷◌}
use Prim.Native.Nat.{ℕ, zero, suc, ◌+◌, ◌<◌}
use native.Mathlib.Nat.{zero-add, suc-add, add-zero, add-suc, le_of_suc-le-suc, not-suc-le-zero}
use native.Mathlib.Omega.{arith}
use lib.Dec.{T, eqb, eqb→eq}
use lib.ListN.{length, get_or}
use borrow.Author.Tests.{eqb-false}
use Rattle.port_rules.specs.Sequence.{id_next, id_byte, TheSequence}

left : (a b : Bool) → T (a && b) → T a
left true b t = tt
left false b t = t

right : (a b : Bool) → T (a && b) → T b
right true b t = t
right false b t = absurd t

abbrev pub chain : ℕ → List ℕ → Bool
chain b [] = true
chain b (x ∷ xs) = eqb x b && chain (id_next x) xs

from : (j b : ℕ) → b ≡ id_byte j → (xs : List ℕ) → T (chain b xs) → (k : ℕ) → k < length xs → get_or xs k 0 ≡ id_byte (k + j)
unfolding id_byte
from j b e [] t k h = absurd (not-suc-le-zero h)
from j b e (x ∷ xs) t zero h = eqb→eq x b (left (eqb x b) (chain (id_next x) xs) t) ∙ e ∙ ap id_byte (sym (zero-add j))
from j b e (x ∷ xs) t (suc k) h =
    from (suc j) (id_next x) (ap id_next (eqb→eq x b (left (eqb x b) (chain (id_next x) xs) t) ∙ e)) xs (right (eqb x b) (chain (id_next x) xs) t) k (le_of_suc-le-suc h)
    ∙ ap id_byte (add-suc k j ∙ sym (suc-add k j))

pub chained : (xs : List ℕ) → T (chain 0xFF xs) → (k : ℕ) → k < length xs → get_or xs k 0 ≡ id_byte k
unfolding id_byte
chained xs t k h = from 0 0xFF refl xs t k h ∙ ap id_byte (add-zero k)

-- No byte of the sequence is zero: one test, computed.
abbrev nowhere_zero : ℕ → ℕ → Bool
nowhere_zero zero b = true
nowhere_zero (suc n) b = cond (eqb b 0) false (nowhere_zero n (id_next b))

none : nowhere_zero 255 0xFF ≡ true
unfolding id_next
none = refl

passed : (c x : Bool) → cond c false x ≡ true → (c ≡ false) × (x ≡ true)
passed true x t = absurd (false≢true t)
passed false x t = (refl, t)

past : (n i b : ℕ) → b ≡ id_byte i → nowhere_zero n b ≡ true → (k : ℕ) → k < n → id_byte (k + i) ≡ 0 → ⊥
unfolding id_byte
past zero i b e t k h z = not-suc-le-zero h
past (suc n) i b e t zero h z = let q : i ≡ 0 + i = omega arith in eqb-false b 0 (passed (eqb b 0) (nowhere_zero n (id_next b)) t).0 (e ∙ ap id_byte q ∙ z)
past (suc n) i b e t (suc k) h z =
    let q : k + suc i ≡ suc k + i = omega arith in
    past n (suc i) (id_next b) (ap id_next e) (passed (eqb b 0) (nowhere_zero n (id_next b)) t).1 k (le_of_suc-le-suc h) (ap id_byte q ∙ z)

pub the_sequence_lem : TheSequence
unfolding id_byte id_next
the_sequence_lem = record {
  starts = refl;
  ends = refl;
  nonzero = λ i h z. let q : i + 0 ≡ i = omega arith in past 255 0 0xFF refl none i h (ap id_byte q ∙ z);
}
