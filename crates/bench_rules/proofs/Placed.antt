-- What is put digit by digit. Assumes nothing.
use Prim.Native.Nat.{ℕ, zero, suc, ◌+◌, ◌-◌, ◌*◌, ◌/◌, ◌%◌, ◌≤◌, ◌<◌}
use mathlib.Core.Path.{◌≡◌, refl, ap, ◌∙◌}
use mathlib.Core.List.{List, [], ◌∷◌, ◌++◌}
use native.Mathlib.Omega.{arith}
use native.Mathlib.Numerals.{add-one, sub-one}
use borrow.Author.Tests.{lt-ltb, le-ltb}
use lib.ListN.{length, take, get_or}
use lib.Seq.{take-suc}
use Rattle.bench_rules.specs.Text.{byte_text, bytes_text, places_text, digit_of}

pub length-bytes : (s : List ℕ) → length (bytes_text s) ≡ 2 * length s
unfolding bytes_text
length-bytes [] = refl
length-bytes (b ∷ s) = omega (arith, length-bytes s)

pub bytes_snoc : (s : List ℕ) (b : ℕ) → bytes_text (s ++ (b ∷ [])) ≡ bytes_text s ++ byte_text b
unfolding bytes_text
bytes_snoc [] b = refl
bytes_snoc (a ∷ s) b = ap (λ (l : List ℕ). digit_of (a / 16) ∷ digit_of (a % 16) ∷ l) (bytes_snoc s b)

-- one byte more
pub bytes_more : (s : List ℕ) (i : ℕ) → i < length s → bytes_text (take (i + 1) s) ≡ bytes_text (take i s) ++ byte_text (get_or s i 0)
bytes_more s i h = ap bytes_text (rw add-one (take-suc s i 0 h)) ∙ bytes_snoc (take i s) (get_or s i 0)

-- decimal digits
pub places-none : (k n : ℕ) → k ≡ 0 → [] ≡ places_text k n
unfolding places_text
places-none k n e = rw e

pub places-last : (k n : ℕ) → 0 < k → n < 10 → digit_of n ∷ [] ≡ places_text k n
unfolding places_text
places-last zero n h g = absurd (omega arith)
places-last (suc k) n h g = rw (lt-ltb n 10 g)

pub places_more : (k n : ℕ) → 0 < k → 10 ≤ n → places_text (k - 1) (n / 10) ++ (digit_of (n % 10) ∷ []) ≡ places_text k n
unfolding places_text
places_more zero n h g = absurd (omega arith)
places_more (suc k) n h g = rw (le-ltb n 10 g, sub-one)
