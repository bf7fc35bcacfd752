-- The line that the image program prints, as bytes.
-- Assumes nothing.
use Rattle.std.specs.Prelude.{ℕ, ◌+◌, ◌-◌, ◌/◌, ◌%◌, ◌≤◌, ◌≡◌, cond, List, [], ◌∷◌, ◌++◌, length, take, ltb, Result, Ok, Err}
use Rattle.refusal.specs.declared.Refusal.{Refusal}
use Rattle.refusal.specs.Number.{number_of}
use Rattle.image_rules.specs.declared.Node.{Node}

-- A hex digit: 0 to 9, then upper-case A to F.
abbrev pub digit_of : ℕ → ℕ
digit_of d = cond (ltb d 10) (0x30 + d) (0x41 + (d - 10))

-- The four hex digits of a word.
abbrev pub hex_of : ℕ → List ℕ
hex_of word = digit_of (word / 4096) ∷ digit_of (word / 256 % 16) ∷ digit_of (word / 16 % 16) ∷ digit_of (word % 16) ∷ []

-- A number below 100 in decimal.
abbrev pub decimal_of : ℕ → List ℕ
decimal_of n = cond (ltb n 10) ((0x30 + n) ∷ []) ((0x30 + n / 10) ∷ (0x30 + n % 10) ∷ [])

abbrev pub newline : List ℕ
newline = 0x0A ∷ []

-- `image ok ` and 12 upper-case hex digits of words 00h-02h.
abbrev pub ok_line : ℕ → ℕ → ℕ → List ℕ
ok_line node0 node1 node2 =
    (0x69 ∷ 0x6D ∷ 0x61 ∷ 0x67 ∷ 0x65 ∷ 0x20 ∷ 0x6F ∷ 0x6B ∷ 0x20 ∷ []) ++ (hex_of node0 ++ (hex_of node1 ++ (hex_of node2 ++ newline)))

-- `image refused ` and the number.
abbrev pub refused_line : ℕ → List ℕ
refused_line n =
    (0x69 ∷ 0x6D ∷ 0x61 ∷ 0x67 ∷ 0x65 ∷ 0x20 ∷ 0x72 ∷ 0x65 ∷ 0x66 ∷ 0x75 ∷ 0x73 ∷ 0x65 ∷ 0x64 ∷ 0x20 ∷ []) ++ (decimal_of n ++ newline)

abbrev pub line_of : Result Node Refusal → List ℕ
line_of (Ok node) = ok_line node.node0 node.node1 node.node2
line_of (Err why) = refused_line (number_of why)

-- The first `len` of `bytes` are the text, and there are as many. The last part follows from the second:
-- a caller that takes them wants it.
pub record Says (text : List ℕ) (len : ℕ) (bytes : List ℕ) : Type 0 where
  pub says : take len bytes ≡ text
  pub within : len ≤ length bytes
  pub whole : len ≡ length (take len bytes)
