-- A turn of a walk over the words: a word is taken into one of two running words, by whether its offset is one of a list.
-- Assumes nothing.
use mathlib.Core.Path.{◌≡◌, refl}
use mathlib.Core.Bool.{Bool, true, false, ◌||◌, true≢false, false≢true}
use mathlib.Core.List.{List, [], ◌∷◌}
use mathlib.Core.Logic.{◌⊎◌, inl, inr}
use Prim.Native.Nat.{ℕ, ◌+◌, ◌≤◌}
use lib.Dec.{eqb}
use lib.Bits.{bit_xor}
use borrow.Author.Tests.{eqb-true, eqb-false}
use Rattle.image_rules.specs.Image.{word_at, is_among}
use Rattle.image_rules.proofs.Words.{Apart, Two, to_own, to_other}

-- It is one of them.
abbrev pub Among : ℕ → List ℕ → Type 0
Among w [] = ⊥
Among w (v ∷ offsets) = (v ≡ w) ⊎ Among w offsets

among_first : (w v : ℕ) (offsets : List ℕ) (here : Bool) → eqb v w ≡ here → (here || is_among w offsets) ≡ true → (is_among w offsets ≡ true → Among w offsets)
    → Among w (v ∷ offsets)
among_first w v offsets true e h behind = inl (eqb-true v w e)
among_first w v offsets false e h behind = inr (behind h)

among_if : (w : ℕ) (offsets : List ℕ) → is_among w offsets ≡ true → Among w offsets
among_if w [] e = false≢true e
among_if w (v ∷ offsets) e = among_first w v offsets (eqb v w) refl e (among_if w offsets)

apart_first : (w v : ℕ) (offsets : List ℕ) (here : Bool) → eqb v w ≡ here → (here || is_among w offsets) ≡ false → (is_among w offsets ≡ false → Apart w offsets)
    → Apart w (v ∷ offsets)
apart_first w v offsets true e h behind = absurd (true≢false h)
apart_first w v offsets false e h behind = (eqb-false v w e, behind h)

apart_if : (w : ℕ) (offsets : List ℕ) → is_among w offsets ≡ false → Apart w offsets
apart_if w [] e = tt
apart_if w (v ∷ offsets) e = apart_first w v offsets (eqb v w) refl e (apart_if w offsets)

module _ (image own rest : List ℕ) (last mine theirs w a b word : ℕ) (within : w ≤ last) (read : word ≡ word_at image w)
    (two : Two image (λ (v : ℕ). is_among v own) last rest mine theirs w a b) {a' b' : ℕ}
    (taken : Among w own → (a' ≡ bit_xor a word) × (b' ≡ b)) (left : Apart w own → (a' ≡ a) × (b' ≡ bit_xor b word)) where
  step_if : (among : Bool) → is_among w own ≡ among → Two image (λ (v : ℕ). is_among v own) last rest mine theirs (w + 1) a' b'
  step_if true e =
      let t = taken (among_if w own e) in
      rw (t.0, t.1) (to_own image (λ (v : ℕ). is_among v own) last rest mine theirs w a b word within read two e)
  step_if false e =
      let t = left (apart_if w own e) in
      rw (t.0, t.1) (to_other image (λ (v : ℕ). is_among v own) last rest mine theirs w a b word within read two e)

  pub step : Two image (λ (v : ℕ). is_among v own) last rest mine theirs (w + 1) a' b'
  step = step_if (is_among w own) refl
