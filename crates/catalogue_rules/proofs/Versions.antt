-- A field passed while the versions of a card are looked at, and the number of the last.
-- Assumes nothing.
use Prim.Native.Nat.{ℕ, ◌+◌}
use mathlib.Core.Path.{◌≡◌, refl, ap, ◌∙◌}
use mathlib.Core.Bool.{true, false, cond}
use mathlib.Core.List.{List, [], ◌∷◌}
use borrow.Author.Tests.{eqb-true, ne_eqb, eq-eqb}
use lib.ListN.{take, drop}
use lib.Dec.{eqb}
use Rattle.catalogue_rules.specs.Field.{number_at, fields_of}
use Rattle.catalogue_rules.proofs.At.{Stands}
use Rattle.catalogue_rules.specs.Cards.{Version, versions_from}
use Rattle.catalogue_rules.specs.Edit.{latest_number}
use Rattle.catalogue_rules.proofs.Bools.{yes_if, no-if}

pub two-not-three : (tag : ℕ) → eqb tag 2 ≡ true → eqb tag 3 ≡ false
two-not-three tag e = ap (λ (t : ℕ). eqb t 3) (eqb-true tag 2 e)

-- The number of the last version, else what is given.
unfoldable pub latest_from : ℕ → List Version → ℕ
latest_from n [] = n
latest_from n (v ∷ vs) = latest_from v.number vs

pub latest-any : (vs : List Version) → latest_number vs ≡ latest_from 0 vs
unfolding latest_from latest_number
latest-any [] = refl
latest-any (v ∷ []) = refl
latest-any (v ∷ w ∷ vs) = latest-any (w ∷ vs)

module _ (file : List ℕ) (at : ℕ) {tag start len : ℕ} (st : Stands file at tag start len) where
  pub from-here : (n : ℕ) → (tag ≡ 1 → ⊥) → versions_from n (fields_of (drop at file))
      ≡ cond (eqb tag 2) (versions_from (number_at (take len (drop start file)) 0) (fields_of (drop (start + len) file)))
      (cond (eqb tag 3) (record { number = n; image = take len (drop start file) } ∷ versions_from n (fields_of (drop (start + len) file)))
      (versions_from n (fields_of (drop (start + len) file))))
  unfolding versions_from
  from-here n other = ap (versions_from n) st.is_first ∙ no-if (eqb tag 1) [] _ (ne_eqb tag 1 other)

  pub none_here : (n : ℕ) → tag ≡ 1 → versions_from n (fields_of (drop at file)) ≡ []
  unfolding versions_from
  none_here n one = ap (versions_from n) st.is_first ∙ yes_if (eqb tag 1) [] _ (eq-eqb tag 1 one)
