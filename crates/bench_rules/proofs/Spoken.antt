-- Laws of lines: a row of addresses, and a number with its sign. Assumes nothing.
use Prim.Native.Nat.{ℕ, ◌+◌, ◌<◌}
use mathlib.Core.Path.{◌≡◌, refl, ap, sym, subst, ◌∙◌}
use mathlib.Core.Bool.{true, false}
use mathlib.Core.List.{List, [], ◌∷◌, ◌++◌, append_assoc, append-nil}
use native.Mathlib.Omega.{arith}
use native.Mathlib.Numerals.{add-one}
use borrow.Author.Tests.{ltb-true}
use lib.Dec.{T}
use lib.IntN.{ℤ, pos, negsuc, nat_abs}
use lib.Signed.{lt_z}
use lib.ListN.{length, take, get_or}
use lib.Seq.{take-suc}
use Rattle.bench_rules.specs.Text.{decimal_text}
use Rattle.bench_rules.specs.Answers.{signed_text, address_text, addresses_text}

addresses_snoc : (s : List ℕ) (a : ℕ) → addresses_text (s ++ (a ∷ [])) ≡ addresses_text s ++ address_text a
unfolding addresses_text
addresses_snoc [] a = append-nil (address_text a)
addresses_snoc (x ∷ s) a = ap (λ (l : List ℕ). address_text x ++ l) (addresses_snoc s a) ∙ sym (append_assoc (address_text x) (addresses_text s) (address_text a))

-- one address more
pub addresses_more : (s : List ℕ) (i : ℕ) → i < length s → addresses_text (take (i + 1) s) ≡ addresses_text (take i s) ++ address_text (get_or s i 0)
addresses_more s i h = ap addresses_text (rw add-one (take-suc s i 0 h)) ∙ addresses_snoc (take i s) (get_or s i 0)

-- Below 0 the text is a minus sign and how far the number is from 0; from 0 on it is the number.
pub below_zero : (n : ℤ) → lt_z n (pos 0) ≡ true → (0x2D ∷ []) ++ decimal_text (nat_abs n) ≡ signed_text n
unfolding signed_text
below_zero (pos n) e = absurd (omega (arith, ltb-true n 0 e))
below_zero (negsuc n) e = refl

pub from_zero : (n : ℤ) → lt_z n (pos 0) ≡ false → decimal_text (nat_abs n) ≡ signed_text n
unfolding signed_text
from_zero (pos n) e = refl
from_zero (negsuc n) e = absurd (subst T e tt)
