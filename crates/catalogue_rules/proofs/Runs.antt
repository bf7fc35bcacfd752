-- The fields that bytes begin with, one at a time: the bound on their number never matters, since each field takes three bytes.
-- Assumes nothing.
use Prim.Native.Nat.{ℕ, zero, suc, ◌+◌, ◌≤◌, ◌<◌}
use mathlib.Core.Path.{◌≡◌, refl, ap, ◌∙◌}
use mathlib.Core.Bool.{Bool, true, false, cond}
use mathlib.Core.List.{List, [], ◌∷◌}
use native.Mathlib.Omega.{arith}
use borrow.Author.Tests.{leb-true, le-leb, lt-leb}
use lib.ListN.{length, length-drop}
use Rattle.catalogue_rules.specs.Field.{Field, number_at, is_whole, first, behind, fields_within, fields_of, left_within, left_of}

pub whole-fits : (bytes : List ℕ) → is_whole bytes ≡ true → 3 + number_at bytes 1 ≤ length bytes
unfolding is_whole
whole-fits bytes h = leb-true (3 + number_at bytes 1) (length bytes) h

pub is_whole_lem : (bytes : List ℕ) → 3 + number_at bytes 1 ≤ length bytes → is_whole bytes ≡ true
unfolding is_whole
is_whole_lem bytes h = le-leb (3 + number_at bytes 1) (length bytes) h

pub is_cut : (bytes : List ℕ) → length bytes < 3 + number_at bytes 1 → is_whole bytes ≡ false
unfolding is_whole
is_cut bytes h = lt-leb (3 + number_at bytes 1) (length bytes) h

shorter : (bytes : List ℕ) (n : ℕ) → is_whole bytes ≡ true → length bytes ≤ suc n → length (behind bytes) ≤ n
shorter bytes n w h =
    let f : 3 + number_at bytes 1 ≤ length bytes = whole-fits bytes w in simp length-drop (omega arith)

-- The bound does not matter.
fields_if : (b : Bool) (m n : ℕ) (bytes : List ℕ) → (b ≡ true → fields_within m (behind bytes) ≡ fields_within n (behind bytes))
    → cond b (first bytes ∷ fields_within m (behind bytes)) [] ≡ cond b (first bytes ∷ fields_within n (behind bytes)) []
fields_if false m n bytes ih = refl
fields_if true m n bytes ih = ap (λ (fs : List Field). first bytes ∷ fs) (ih refl)

fields_bound : (m n : ℕ) (bytes : List ℕ) → length bytes ≤ m → length bytes ≤ n → fields_within m bytes ≡ fields_within n bytes
unfolding fields_within
fields_bound zero zero bytes hm hn = refl
fields_bound zero (suc n) bytes hm hn = rw (is_cut bytes (omega arith))
fields_bound (suc m) zero bytes hm hn = rw (is_cut bytes (omega arith))
fields_bound (suc m) (suc n) bytes hm hn =
    fields_if (is_whole bytes) m n bytes (λ e. fields_bound m n (behind bytes) (shorter bytes m e hm) (shorter bytes n e hn))

left-if : (b : Bool) (m n : ℕ) (bytes : List ℕ) → (b ≡ true → left_within m (behind bytes) ≡ left_within n (behind bytes))
    → cond b (left_within m (behind bytes)) bytes ≡ cond b (left_within n (behind bytes)) bytes
left-if false m n bytes ih = refl
left-if true m n bytes ih = ih refl

left_bound : (m n : ℕ) (bytes : List ℕ) → length bytes ≤ m → length bytes ≤ n → left_within m bytes ≡ left_within n bytes
unfolding left_within
left_bound zero zero bytes hm hn = refl
left_bound zero (suc n) bytes hm hn = rw (is_cut bytes (omega arith))
left_bound (suc m) zero bytes hm hn = rw (is_cut bytes (omega arith))
left_bound (suc m) (suc n) bytes hm hn =
    left-if (is_whole bytes) m n bytes (λ e. left_bound m n (behind bytes) (shorter bytes m e hm) (shorter bytes n e hn))

-- One field more of bound than bytes, so that a definition computes one turn.
fields_turn : (bytes : List ℕ) → fields_of bytes ≡ fields_within (suc (length bytes)) bytes
unfolding fields_of
fields_turn bytes = fields_bound (length bytes) (suc (length bytes)) bytes (omega arith) (omega arith)

left_turn : (bytes : List ℕ) → left_of bytes ≡ left_within (suc (length bytes)) bytes
unfolding left_of
left_turn bytes = left_bound (length bytes) (suc (length bytes)) bytes (omega arith) (omega arith)

module _ (bytes : List ℕ) (w : is_whole bytes ≡ true) where
  pub fields_step : fields_of bytes ≡ first bytes ∷ fields_of (behind bytes)
  unfolding fields_within fields_of
  fields_step =
      let f : 3 + number_at bytes 1 ≤ length bytes = whole-fits bytes w in
      fields_turn bytes
      ∙ ap (λ (b : Bool). cond b (first bytes ∷ fields_within (length bytes) (behind bytes)) []) w
      ∙ ap (λ (fs : List Field). first bytes ∷ fs) (fields_bound (length bytes) (length (behind bytes)) (behind bytes) (simp length-drop (omega arith)) (omega arith))

  pub left_step : left_of bytes ≡ left_of (behind bytes)
  unfolding left_within left_of
  left_step =
      left_turn bytes
      ∙ ap (λ (b : Bool). cond b (left_within (length bytes) (behind bytes)) bytes) w
      ∙ left_bound (length bytes) (length (behind bytes)) (behind bytes) (simp length-drop (omega arith)) (omega arith)

module _ (bytes : List ℕ) (w : is_whole bytes ≡ false) where
  pub fields_stop : fields_of bytes ≡ []
  unfolding fields_within
  fields_stop = fields_turn bytes ∙ ap (λ (b : Bool). cond b (first bytes ∷ fields_within (length bytes) (behind bytes)) []) w

  pub left_stop : left_of bytes ≡ bytes
  unfolding left_within
  left_stop = left_turn bytes ∙ ap (λ (b : Bool). cond b (left_within (length bytes) (behind bytes)) bytes) w
