-- What is printed is read back. Assumes nothing.
use Rattle.std.specs.Prelude.{ℕ, ◌<◌, ◌≡◌, Bool, true, ◌&&◌, List, [], ◌∷◌, ltb}
use Rattle.bench_rules.specs.Text.{number_of, is_hex, bytes_of, byte_text, word_text, bytes_text, decimal_text}

unfoldable pub are_bytes : List ℕ → Bool
are_bytes [] = true
are_bytes (b ∷ s) = ltb b 256 && are_bytes s

-- Bytes printed are hex digits, and are read back as those bytes; so are a byte, a word, and a number in decimal.
pub record RoundTrips : Type 0 where
  pub digits : (s : List ℕ) → are_bytes s ≡ true → is_hex (bytes_text s) ≡ true
  pub bytes : (s : List ℕ) → are_bytes s ≡ true → bytes_of (bytes_text s) ≡ s
  pub byte : (v : ℕ) → v < 256 → number_of 16 (byte_text v) ≡ v
  pub word : (v : ℕ) → v < 65536 → number_of 16 (word_text v) ≡ v
  pub decimal : (n : ℕ) → n < 65536 → number_of 10 (decimal_text n) ≡ n
