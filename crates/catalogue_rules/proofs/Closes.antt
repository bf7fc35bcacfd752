-- The ways through the test of the count.
-- Assumes nothing.
use Prim.Native.Nat.{ℕ, ◌+◌, ◌≤◌, ◌<◌}
use mathlib.Core.Path.{◌≡◌, refl, sym, ap, ap₂, ◌∙◌}
use mathlib.Core.Bool.{Bool, true, false, cond, ◌&&◌}
use mathlib.Core.List.{List, [], ◌∷◌}
use native.Mathlib.Omega.{arith}
use borrow.Author.Tests.{eq-eqb, ne_eqb}
use lib.ListN.{length, drop, length-drop}
use lib.Dec.{eqb}
use Rattle.std.specs.Prelude.{Result, Ok, Err}
use Rattle.refusal.specs.declared.Refusal.{Refusal}
use Rattle.catalogue_rules.specs.declared.Counts.{Counts}
use Rattle.refusal.specs.declared.Refusal.TheVariants.{FieldDamaged}
use Rattle.catalogue_rules.specs.Field.{Field, field, number_at, is_whole, fields_of, left_of}
use Rattle.catalogue_rules.proofs.Runs.{is_cut, fields_step, fields_stop, left_stop}
use Rattle.catalogue_rules.specs.declared.Turn.{Turn}
use Rattle.catalogue_rules.specs.Turns.{may_end}
use Rattle.catalogue_rules.specs.Reading.{catalogue, refused, is_last, addresses_of, judged, counts}
use Rattle.catalogue_rules.specs.FileWalk.{behind_so, closes}
use Rattle.catalogue_rules.proofs.Bools.{and_no, and_yes}

nothing_left : is_last (fields_of []) (left_of []) ≡ true
nothing_left = rw (fields_stop [] (is_cut [] (omega arith)), left_stop [] (is_cut [] (omega arith)))

some-left-if : (t : Bool) (x : ℕ) (xs : List ℕ) → is_whole (x ∷ xs) ≡ t → is_last (fields_of (x ∷ xs)) (left_of (x ∷ xs)) ≡ false
some-left-if true x xs w = ap (λ (fs : List Field). is_last fs (left_of (x ∷ xs))) (fields_step (x ∷ xs) w)
some-left-if false x xs w = ap₂ is_last (fields_stop (x ∷ xs) w) (left_stop (x ∷ xs) w)

some_left : (rest : List ℕ) → 0 < length rest → is_last (fields_of rest) (left_of rest) ≡ false
some_left [] h = absurd (omega arith)
some_left (x ∷ xs) h = some-left-if (is_whole (x ∷ xs)) x xs refl

none_left : (rest : List ℕ) → length rest ≤ 0 → is_last (fields_of rest) (left_of rest) ≡ true
none_left [] h = nothing_left
none_left (x ∷ xs) h = absurd (omega arith)

shown : ℕ → ℕ → Bool → Result Counts Refusal
shown cards n t = behind_so cards n (judged (cond t (catalogue []) (refused FieldDamaged)))

fails : (cards n : ℕ) (t : Bool) → t ≡ false → Err FieldDamaged ≡ shown cards n t
unfolding shown
fails cards n t e = rw e

holds : (cards n : ℕ) (t : Bool) → t ≡ true → Ok (counts cards n) ≡ shown cards n t
unfolding shown addresses_of
holds cards n t e =
    let p : cards ≡ cards + 0 = omega arith in
    let q : n ≡ n + 0 = omega arith in
    ap₂ (λ (x y : ℕ). Ok (counts x y)) p q ∙ ap (λ (s : Bool). behind_so cards n (judged (cond s (catalogue []) (refused FieldDamaged)))) (sym e)

module _ (turn : Turn) (n cards : ℕ) (v rest : List ℕ) where
  pub unended : may_end turn ≡ false → Err FieldDamaged ≡ closes turn n cards (field 4 v) rest
  unfolding closes shown
  unended m = fails cards n _ (and_no (may_end turn) _ m)

  module _ (m : may_end turn ≡ true) where
    pub misfit : (length v ≡ 2 → ⊥) → Err FieldDamaged ≡ closes turn n cards (field 4 v) rest
    unfolding closes shown
    misfit two = fails cards n _ (and_yes (may_end turn) _ false m (and_no (eqb (length v) 2) _ (ne_eqb (length v) 2 two)))

    module _ (two : length v ≡ 2) where
      pub miscounted : (number_at v 0 ≡ n → ⊥) → Err FieldDamaged ≡ closes turn n cards (field 4 v) rest
      unfolding closes shown
      miscounted k =
          fails cards n _ (and_yes (may_end turn) _ false m (and_yes (eqb (length v) 2) _ false (eq-eqb (length v) 2 two) (and_no (eqb (number_at v 0) n) _ (ne_eqb (number_at v 0) n k))))

      module _ (k : number_at v 0 ≡ n) where
        ended : (t : Bool) → is_last (fields_of rest) (left_of rest) ≡ t
            → may_end turn && (eqb (length v) 2 && (eqb (number_at v 0) n && is_last (fields_of rest) (left_of rest))) ≡ t
        ended t e = and_yes (may_end turn) _ t m (and_yes (eqb (length v) 2) _ t (eq-eqb (length v) 2 two) (and_yes (eqb (number_at v 0) n) _ t (eq-eqb (number_at v 0) n k) e))

        followed : 0 < length rest → Err FieldDamaged ≡ closes turn n cards (field 4 v) rest
        unfolding closes shown
        followed h = fails cards n _ (ended false (some_left rest h))

        closed : length rest ≤ 0 → Ok (counts cards n) ≡ closes turn n cards (field 4 v) rest
        unfolding closes shown
        closed h = holds cards n _ (ended true (none_left rest h))

-- Behind the count there is something of the file, or nothing.
module _ (turn : Turn) (n cards : ℕ) (v file : List ℕ) (at : ℕ) (m : may_end turn ≡ true) (two : length v ≡ 2) (k : number_at v 0 ≡ n) where
  pub followed_at : at ≤ length file → (at ≡ length file → ⊥) → Err FieldDamaged ≡ closes turn n cards (field 4 v) (drop at file)
  followed_at within more = followed turn n cards v (drop at file) m two k (simp length-drop (omega (arith, more)))

  pub closed_at : at ≡ length file → Ok (counts cards n) ≡ closes turn n cards (field 4 v) (drop at file)
  closed_at all = closed turn n cards v (drop at file) m two k (simp length-drop (omega arith))
