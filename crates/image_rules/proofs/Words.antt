-- The code takes the words whole, in the order of the offsets, into running words, and folds each to a byte at the end.
-- The paper takes both bytes of each word. The two agree.
-- Assumes nothing.
use mathlib.Core.Path.{◌≡◌, refl, sym, ap, ap₂, ◌∙◌}
use mathlib.Core.Bool.{Bool, true, false, cond, not}
use mathlib.Core.List.{List, [], ◌∷◌}
use Prim.Native.Nat.{ℕ, suc, ◌+◌, ◌*◌, ◌-◌, ◌/◌, ◌%◌, ◌≤◌, ◌<◌}
use native.Mathlib.Numerals.{add-one}
use native.Mathlib.Omega.{arith}
use lib.Dec.{eqb}
use lib.Bits.{bit_xor, xor_zero_r, xor_shr, xor_mod}
use borrow.Author.Tests.{ne_eqb, eqb-false}
use Rattle.image_rules.specs.Image.{place_of, byte_at, low_at, high_at, word_at, both_bytes, xor_of, span, is_among}
use Rattle.image_rules.proofs.Xor.{xor_assoc, xor_across}

-- ---- the fold

-- A word's high byte and its low one, exclusive-or'ed.
abbrev pub folded : ℕ → ℕ
folded word = bit_xor (word / 256) (word % 256)

-- The words at the offsets, exclusive-or'ed whole.
unfoldable pub whole_of : List ℕ → List ℕ → ℕ
whole_of image [] = 0
whole_of image (w ∷ offsets) = bit_xor (word_at image w) (whole_of image offsets)

folded_xor : (a b : ℕ) → folded (bit_xor a b) ≡ bit_xor (folded a) (folded b)
folded_xor a b = ap₂ bit_xor (xor_shr a b 8) (xor_mod a b 8) ∙ xor_across (a / 256) (b / 256) (a % 256) (b % 256)

folded_pair : (high low : ℕ) → low < 256 → folded (high * 256 + low) ≡ bit_xor high low
folded_pair high low h =
    let above : (high * 256 + low) / 256 ≡ high = omega arith in
    let below : (high * 256 + low) % 256 ≡ low = omega arith in
    ap₂ bit_xor above below

-- Folding whole words is exclusive-or'ing their bytes.
pub folded_words : (image offsets : List ℕ) → ((place : ℕ) → byte_at image place < 256) → folded (whole_of image offsets) ≡ xor_of image offsets
unfolding whole_of xor_of both_bytes word_at
folded_words image [] bytes = refl
folded_words image (w ∷ offsets) bytes =
    folded_xor (word_at image w) (whole_of image offsets)
    ∙ ap₂ bit_xor (folded_pair (high_at image w) (low_at image w) (bytes (place_of w))) (folded_words image offsets bytes)

-- ---- whether an offset is one of a list

-- It is none of them.
abbrev pub Apart : ℕ → List ℕ → Type 0
Apart w [] = Unit {0}
Apart w (v ∷ offsets) = (v ≡ w → ⊥) × Apart w offsets

pub apart : (w : ℕ) (offsets : List ℕ) → Apart w offsets → is_among w offsets ≡ false
apart w [] n = refl
apart w (v ∷ offsets) n = rw (ne_eqb v w n.0) (apart w offsets n.1)

among_first : (w v : ℕ) (offsets : List ℕ) (here : Bool) → eqb v w ≡ here → (Apart w (v ∷ offsets) → ⊥)
    → ((Apart w offsets → ⊥) → is_among w offsets ≡ true) → is_among w (v ∷ offsets) ≡ true
among_first w v offsets true e n behind = rw e refl
among_first w v offsets false e n behind = rw e (behind (λ others. n (eqb-false v w e, others)))

pub among : (w : ℕ) (offsets : List ℕ) → (Apart w offsets → ⊥) → is_among w offsets ≡ true
among w [] n = absurd (n tt)
among w (v ∷ offsets) n = among_first w v offsets (eqb v w) refl n (among w offsets)

-- ---- a walk over the offsets

-- Of these offsets those whose words a running word takes, and behind them the rest.
abbrev pub takes : (ℕ → Bool) → List ℕ → List ℕ → List ℕ
takes own [] rest = rest
takes own (w ∷ these) rest = cond (own w) (w ∷ takes own these rest) (takes own these rest)

span_cons : (w last : ℕ) → w ≤ last → span w last ≡ w ∷ span (w + 1) last
span_cons w last h =
    let e : suc last - w ≡ suc (suc last - (w + 1)) = omega arith in rw (e, add-one w)

span_none : (w last : ℕ) → last < w → span w last ≡ []
span_none w last h = let e : suc last - w ≡ 0 = omega arith in rw e

-- A running word before the word at offset w: with the words that are left it is the whole.
abbrev pub Left : List ℕ → (ℕ → Bool) → ℕ → List ℕ → ℕ → ℕ → ℕ → Type 0
Left image own last rest whole w run = bit_xor run (whole_of image (takes own (span w last) rest)) ≡ whole

module _ (image : List ℕ) (own : ℕ → Bool) (last : ℕ) (rest : List ℕ) (whole w run : ℕ) (left : Left image own last rest whole w run) where
  abbrev behind : List ℕ
  behind = takes own (span (w + 1) last) rest

  first : w ≤ last → (own? : Bool) → own w ≡ own? → takes own (span w last) rest ≡ cond own? (w ∷ behind) behind
  first h own? e = ap (λ (these : List ℕ). takes own these rest) (span_cons w last h) ∙ ap (λ (b : Bool). cond b (w ∷ behind) behind) e

  -- The word is taken.
  pub taken : w ≤ last → own w ≡ true → (word : ℕ) → word ≡ word_at image w → Left image own last rest whole (w + 1) (bit_xor run word)
  unfolding whole_of
  taken h mine word e =
      ap (λ (x : ℕ). bit_xor (bit_xor run x) (whole_of image behind)) e
      ∙ xor_assoc run (word_at image w) (whole_of image behind)
      ∙ ap (λ (these : List ℕ). bit_xor run (whole_of image these)) (sym (first h true mine))
      ∙ left

  -- The word is the other's.
  passed : w ≤ last → own w ≡ false → Left image own last rest whole (w + 1) run
  passed h others = ap (λ (these : List ℕ). bit_xor run (whole_of image these)) (sym (first h false others)) ∙ left

  -- The walk is over: only the rest is left.
  pub walked : last < w → bit_xor run (whole_of image rest) ≡ whole
  walked h = ap (λ (these : List ℕ). bit_xor run (whole_of image (takes own these rest))) (sym (span_none w last h)) ∙ left

-- Two running words before the word at offset w: one takes its own words, and the rest behind them, the other the others.
abbrev pub Two : List ℕ → (ℕ → Bool) → ℕ → List ℕ → ℕ → ℕ → ℕ → ℕ → ℕ → Type 0
Two image own last rest mine theirs w a b = Left image own last rest mine w a × Left image (λ (v : ℕ). not (own v)) last [] theirs w b

module _ (image : List ℕ) (own : ℕ → Bool) (last : ℕ) (rest : List ℕ) (mine theirs w a b word : ℕ) (within : w ≤ last)
    (read : word ≡ word_at image w) (two : Two image own last rest mine theirs w a b) where
  pub to_own : own w ≡ true → Two image own last rest mine theirs (w + 1) (bit_xor a word) b
  to_own e = (
    taken image own last rest mine w a two.0 within e word read,
    passed image (λ (v : ℕ). not (own v)) last [] theirs w b two.1 within (ap not e),
  )

  pub to_other : own w ≡ false → Two image own last rest mine theirs (w + 1) a (bit_xor b word)
  to_other e = (
    passed image own last rest mine w a two.0 within e,
    taken image (λ (v : ℕ). not (own v)) last [] theirs w b two.1 within (ap not e) word read,
  )

-- With nothing left the running word folds to the exclusive-or of the bytes.
pub byte_of : (image offsets : List ℕ) → ((place : ℕ) → byte_at image place < 256) → (run : ℕ) → bit_xor run (whole_of image []) ≡ whole_of image offsets
    → folded run ≡ xor_of image offsets
unfolding whole_of
byte_of image offsets bytes run e = ap folded (sym (xor_zero_r run) ∙ e) ∙ folded_words image offsets bytes
