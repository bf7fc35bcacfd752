-- What is printed is read back: a digit's value is the digit, and a number is read digit by digit as it was taken apart. Assumes nothing.
use Prim.Native.Nat.{ℕ, zero, suc, ◌+◌, ◌-◌, ◌*◌, ◌/◌, ◌%◌, ◌≤◌, ◌<◌}
use mathlib.Core.Path.{◌≡◌, refl, ap, ◌∙◌}
use mathlib.Core.Bool.{Bool, true, false, cond}
use mathlib.Core.List.{List, [], ◌∷◌, ◌++◌}
use native.Mathlib.Omega.{arith}
use borrow.Author.Tests.{lt-ltb, le-ltb, le-leb, lt-leb, ltb-true, ltb-false, ne_eqb}
use lib.Dec.{ltb}
use lib.ListN.{length, length-append}
use Rattle.bits.proofs.Tests.{both, of_test}
use Rattle.bench_rules.specs.Text.{value_of, digit_of, valued, read_on, number_of, is_hex, bytes_of, byte_text, word_text, bytes_text, places_text, decimal_text}
use Rattle.hex_text.specs.RoundTrip.{are_bytes, RoundTrips}

low_digit : (d : ℕ) → d < 10 → value_of (digit_of d) ≡ d
unfolding value_of digit_of
low_digit d h = rw (lt-ltb d 10 h, le-ltb (0x30 + d) 0x30 (omega arith), lt-ltb (0x30 + d) 0x3A (omega arith)) (omega arith)

high_digit : (d : ℕ) → 10 ≤ d → d < 16 → value_of (digit_of d) ≡ d
unfolding value_of digit_of
high_digit d g h =
    rw (le-ltb d 10 g, le-ltb (0x41 + (d - 10)) 0x30 (omega arith), le-ltb (0x41 + (d - 10)) 0x3A (omega arith), le-ltb (0x41 + (d - 10)) 0x41 (omega arith), lt-ltb (0x41 + (d - 10)) 0x47 (omega arith)) (omega arith)

either_digit : (b : Bool) (d : ℕ) → ltb d 10 ≡ b → d < 16 → value_of (digit_of d) ≡ d
either_digit true d e h = low_digit d (ltb-true d 10 e)
either_digit false d e h = high_digit d (ltb-false d 10 e) h

digit_back : (d : ℕ) → d < 16 → value_of (digit_of d) ≡ d
digit_back d h = either_digit (ltb d 10) d refl h

valued_back : (base n d : ℕ) → d < base → base ≤ 16 → n * base + d < 65536 → valued base n (digit_of d) ≡ n * base + d
unfolding valued
valued_back base n d h g f =
    rw (digit_back d (omega arith), lt-leb base d h, lt-ltb (n * base + d) 65536 f)

digits_back : (s : List ℕ) → are_bytes s ≡ true → is_hex (bytes_text s) ≡ true
unfolding are_bytes is_hex bytes_text
digits_back [] e = refl
digits_back (b ∷ s) e =
    let f : (ltb b 256 ≡ true) × (are_bytes s ≡ true) = both (ltb b 256) (are_bytes s) e in
    let h : b < 256 = ltb-true b 256 f.0 in
    rw (digit_back (b / 16) (omega arith), digit_back (b % 16) (omega arith), le-leb (b / 16) 15 (omega arith), le-leb (b % 16) 15 (omega arith)) (digits_back s f.1)

bytes_back : (s : List ℕ) → are_bytes s ≡ true → bytes_of (bytes_text s) ≡ s
unfolding are_bytes bytes_of bytes_text
bytes_back [] e = refl
bytes_back (b ∷ s) e =
    let f : (ltb b 256 ≡ true) × (are_bytes s ≡ true) = both (ltb b 256) (are_bytes s) e in
    let h : b < 256 = ltb-true b 256 f.0 in
    let g : b / 16 * 16 + b % 16 ≡ b = omega arith in
    rw (digit_back (b / 16) (omega arith), digit_back (b % 16) (omega arith), g, bytes_back s f.1)

byte_back : (v : ℕ) → v < 256 → number_of 16 (byte_text v) ≡ v
unfolding number_of read_on
byte_back v h =
    rw (valued_back 16 0 (v / 16) (omega arith) (omega arith) (omega arith), valued_back 16 (0 * 16 + v / 16) (v % 16) (omega arith) (omega arith) (omega arith)) (omega arith)

word_back : (v : ℕ) → v < 65536 → number_of 16 (word_text v) ≡ v
unfolding number_of read_on
word_back v h =
    let a = v / 256 / 16 in
    let b = v / 256 % 16 in
    let c = v % 256 / 16 in
    let d = v % 256 % 16 in
    rw (
      valued_back 16 0 (v / 256 / 16) (omega arith) (omega arith) (omega arith),
      valued_back 16 (0 * 16 + v / 256 / 16) (v / 256 % 16) (omega arith) (omega arith) (omega arith),
      valued_back 16 ((0 * 16 + v / 256 / 16) * 16 + v / 256 % 16) (v % 256 / 16) (omega arith) (omega arith) (omega arith),
      valued_back 16 (((0 * 16 + v / 256 / 16) * 16 + v / 256 % 16) * 16 + v % 256 / 16) (v % 256 % 16) (omega arith) (omega arith) (omega arith),
    ) (omega arith)

read_snoc : (base n : ℕ) (s : List ℕ) (b : ℕ) → read_on base n (s ++ (b ∷ [])) ≡ valued base (read_on base n s) b
unfolding read_on
read_snoc base n [] b = refl
read_snoc base n (a ∷ s) b = read_snoc base (valued base n a) s b

tens : ℕ → ℕ
tens zero = 1
tens (suc k) = 10 * tens k

first_digit : (n : ℕ) → n < 10 → read_on 10 0 (digit_of n ∷ []) ≡ n
unfolding read_on
first_digit n h = let z : 0 * 10 + n ≡ n = omega arith in valued_back 10 0 n h (omega arith) (omega arith) ∙ z

-- the digits before the last are those of a tenth
places_back : (k n : ℕ) → n < tens k → n < 65536 → read_on 10 0 (places_text k n) ≡ n
unfolding places_text read_on tens
places_back zero n h g = omega arith
places_back (suc k) n h g =
    of_test (λ (s : List ℕ). read_on 10 0 s ≡ n) (ltb n 10)
    (λ e. first_digit n (ltb-true n 10 e))
    (λ e.
    let q : n / 10 * 10 + n % 10 ≡ n = omega arith in
    read_snoc 10 0 (places_text k (n / 10)) (digit_of (n % 10))
    ∙ (ap (λ (m : ℕ). valued 10 m (digit_of (n % 10))) (places_back k (n / 10) (omega arith) (omega arith))
    ∙ (valued_back 10 (n / 10) (n % 10) (omega arith) (omega arith) (omega arith) ∙ q)))

some_digit : (b : Bool) (s : List ℕ) (d e : ℕ) → length (cond b (d ∷ []) (s ++ (e ∷ []))) ≡ 0 → ⊥
some_digit true s d e h = omega arith
some_digit false s d e h = omega (arith, length-append s (e ∷ []))

decimal_back : (n : ℕ) → n < 65536 → number_of 10 (decimal_text n) ≡ n
unfolding number_of places_text tens
decimal_back n h =
    rw (ne_eqb (length (places_text 5 n)) 0 (some_digit (ltb n 10) (places_text 4 (n / 10)) (digit_of n) (digit_of (n % 10)))) (places_back 5 n (omega arith) h)

pub round_trips : RoundTrips
round_trips = record { digits = digits_back; bytes = bytes_back; byte = byte_back; word = λ v h. word_back v (omega arith); decimal = decimal_back }
