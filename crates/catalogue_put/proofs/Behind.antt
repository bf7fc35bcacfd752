-- The fields behind a card's address, and what the search for the card told.
-- Assumes nothing.
use Prim.Native.Nat.{ℕ, zero, suc, ◌+◌, ◌-◌, ◌≤◌}
use mathlib.Core.Path.{◌≡◌, refl, sym, ap, ◌∙◌}
use mathlib.Core.Bool.{Bool, true, false, cond}
use mathlib.Core.List.{List, [], ◌∷◌}
use native.Mathlib.Omega.{arith}
use lib.ListN.{length, take, drop}
use Rattle.std.specs.Prelude.{Some, None}
use Rattle.catalogue_rules.specs.Field.{Field, field, fields_of}
use Rattle.catalogue_rules.proofs.At.{Stands, either_way}
use Rattle.catalogue_rules.specs.Edit.{is_card}
use Rattle.catalogue_put.specs.Places.{card_place, seek_if}

pub missing_if : (b : Bool) (place : ℕ) → None ≡ seek_if b place → b ≡ false
missing_if true place e = let z : ◌≡◌ {A = ℕ} 0 1 = cc in absurd (omega arith)
missing_if false place e = refl

pub behind-if : (b : Bool) (place at : ℕ) → Some at ≡ seek_if b place → (b ≡ true) × (at ≡ place)
behind-if true place at e = (refl, cc)
behind-if false place at e = let z : ◌≡◌ {A = ℕ} 0 1 = cc in absurd (omega arith)

-- The fields behind a card's address.
unfoldable pub behind_card : ℕ → List Field → List Field
behind_card a [] = []
behind_card a (f ∷ fs) = cond (is_card a f) fs (behind_card a fs)

-- In a file: the fields from the place behind a card's address on are those behind the address. The bound falls at each field.
module _ (a : ℕ) (file : List ℕ) where
  place-if : (at : ℕ) {tag start len : ℕ} → Stands file at tag start len → (t : Bool)
      → fields_of (drop (start + len + card_place a (fields_of (drop (start + len) file))) file) ≡ behind_card a (fields_of (drop (start + len) file))
      → fields_of (drop (at + cond t (3 + length (take len (drop start file))) (3 + length (take len (drop start file)) + card_place a (fields_of (drop (start + len) file)))) file)
      ≡ cond t (fields_of (drop (start + len) file)) (behind_card a (fields_of (drop (start + len) file)))
  place-if at {tag} {start} {len} st true on =
      let n : at + (3 + length (take len (drop start file))) ≡ start + len = omega (arith, st.behind_head, st.size) in
      ap (λ (k : ℕ). fields_of (drop k file)) n
  place-if at {tag} {start} {len} st false on =
      let n : at + (3 + length (take len (drop start file)) + card_place a (fields_of (drop (start + len) file))) ≡ start + len + card_place a (fields_of (drop (start + len) file)) =
      omega (arith, st.behind_head, st.size) in
      ap (λ (k : ℕ). fields_of (drop k file)) n ∙ on

  none-behind : (at : ℕ) → fields_of (drop at file) ≡ [] → fields_of (drop (at + card_place a (fields_of (drop at file))) file) ≡ behind_card a (fields_of (drop at file))
  unfolding card_place behind_card
  none-behind at e =
      let z : at + 0 ≡ at = omega arith in
      ap (λ (fs : List Field). fields_of (drop (at + card_place a fs) file)) e
      ∙ ap (λ (k : ℕ). fields_of (drop k file)) z
      ∙ e
      ∙ ap (behind_card a) (sym e)

  behind-from : (k at : ℕ) → length file - at ≤ k → fields_of (drop (at + card_place a (fields_of (drop at file))) file) ≡ behind_card a (fields_of (drop at file))
  unfolding card_place behind_card
  behind-from zero at h = either_way file at _ (λ tag start len st. absurd (omega (arith, st.fits, st.behind_head))) (λ s. none-behind at s.none)
  behind-from (suc k) at h =
      either_way file at _
      (λ tag start len st. ap (λ (fs : List Field). fields_of (drop (at + card_place a fs) file)) st.is_first
      ∙ place-if at st (is_card a (field tag (take len (drop start file)))) (behind-from k (start + len) (omega (arith, st.fits, st.behind_head)))
      ∙ ap (behind_card a) (sym st.is_first))
      (λ s. none-behind at s.none)

  pub behind-place : fields_of (drop (card_place a (fields_of file)) file) ≡ behind_card a (fields_of file)
  behind-place =
      let z : card_place a (fields_of file) ≡ 0 + card_place a (fields_of file) = omega arith in
      ap (λ (k : ℕ). fields_of (drop k file)) z ∙ behind-from (length file) 0 (omega arith)
