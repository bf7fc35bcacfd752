-- Text and numbers. Text is a list of characters. Assumes nothing.
use Rattle.std.specs.Prelude.{ℕ, zero, suc, ◌+◌, ◌-◌, ◌*◌, ◌/◌, ◌%◌, ◌≡◌, Bool, true, cond, ◌&&◌, Option, Some, None, List, [], ◌∷◌, ◌++◌, length, take, ltb, leb, eqb}

-- ---- reading

-- A number below a limit; none from there on.
abbrev pub below : ℕ → ℕ → Option ℕ
below limit n = cond (ltb n limit) (Some n) None

-- The value of a digit, 0 to 15, in either case; 16 for a character that is none.
unfoldable pub value_of : ℕ → ℕ
value_of b =
    cond (ltb b 0x30) 16
    (cond (ltb b 0x3A) (b - 0x30)
    (cond (ltb b 0x41) 16
    (cond (ltb b 0x47) (b - 0x37)
    (cond (ltb b 0x61) 16
    (cond (ltb b 0x67) (b - 0x57)
    16)))))

-- 65,536 stands for no number.
abbrev pub none : ℕ
none = 65536

abbrev pub capped : ℕ → ℕ
capped n = cond (ltb n none) n none

-- A number and one digit more; a character that is no digit of the base makes it none, and so does a value of 65,536 or more.
unfoldable pub valued : ℕ → ℕ → ℕ → ℕ
valued base n b = cond (leb base (value_of b)) none (capped (n * base + value_of b))

unfoldable pub read_on : ℕ → ℕ → List ℕ → ℕ
read_on base n [] = n
read_on base n (b ∷ s) = read_on base (valued base n b) s

-- The number that a word spells in a base: digits alone, at least one, below 65,536.
unfoldable pub number_of : ℕ → List ℕ → ℕ
number_of base s = cond (eqb (length s) 0) none (cond (ltb 16 base) none (read_on base 0 s))

-- Every character is a hex digit.
unfoldable pub is_hex : List ℕ → Bool
is_hex [] = true
is_hex (b ∷ s) = leb (value_of b) 15 && is_hex s

-- An even number of hex digits, for no more bytes than there is room for.
unfoldable pub is_pairs : ℕ → List ℕ → Bool
is_pairs room s = eqb (length s % 2) 0 && (leb (length s / 2) room && is_hex s)

-- two digits a byte
unfoldable pub bytes_of : List ℕ → List ℕ
bytes_of [] = []
bytes_of (a ∷ []) = []
bytes_of (a ∷ b ∷ s) = (value_of a * 16 + value_of b) ∷ bytes_of s

pub record Paired (word : List ℕ) (room : ℕ) (r : Option ℕ) (out : List ℕ) : Type 0 where
  pub answer : r ≡ cond (is_pairs room word) (Some (length word / 2)) None
  pub bytes : is_pairs room word ≡ true → take (length word / 2) out ≡ bytes_of word
  pub long : length out ≡ room

-- ---- printing

-- A hex digit: 0 to 9, then upper-case A to F.
unfoldable pub digit_of : ℕ → ℕ
digit_of d = cond (ltb d 10) (0x30 + d) (0x41 + (d - 10))

abbrev pub byte_text : ℕ → List ℕ
byte_text b = digit_of (b / 16) ∷ digit_of (b % 16) ∷ []

abbrev pub word_text : ℕ → List ℕ
word_text v = byte_text (v / 256) ++ byte_text (v % 256)

unfoldable pub bytes_text : List ℕ → List ℕ
bytes_text [] = []
bytes_text (b ∷ s) = byte_text b ++ bytes_text s

-- at most k decimal digits
unfoldable pub places_text : ℕ → ℕ → List ℕ
places_text zero n = []
places_text (suc k) n = cond (ltb n 10) (digit_of n ∷ []) (places_text k (n / 10) ++ (digit_of (n % 10) ∷ []))

-- A number below 100,000 in decimal, with no zero in front.
abbrev pub decimal_text : ℕ → List ℕ
decimal_text n = places_text 5 n
