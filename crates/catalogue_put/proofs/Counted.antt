-- The versions of a card, counted, and the number of the latest, field by field.
-- Assumes nothing.
use Prim.Native.Nat.{ℕ, ◌+◌}
use mathlib.Core.Path.{◌≡◌, refl, sym, ap, ap₂, ◌∙◌}
use mathlib.Core.Bool.{Bool, true, false, cond, true≢false}
use mathlib.Core.List.{List, [], ◌∷◌}
use native.Mathlib.Omega.{arith}
use lib.ListN.{length, take, drop}
use lib.Dec.{eqb}
use Rattle.catalogue_rules.specs.Field.{Field, number_at, fields_of}
use Rattle.catalogue_rules.proofs.At.{Stands}
use Rattle.catalogue_rules.specs.FileWalk.{one_if}
use Rattle.catalogue_rules.specs.Cards.{Version, versions_from}
use Rattle.catalogue_rules.proofs.Versions.{latest_from, two-not-three, from-here, none_here}

-- How many there are does not hang on the numbers.
length-if : (a b c : Bool) (n m : ℕ) (v : List ℕ) (one these those : List Version) → length these ≡ length those
    → length (cond a [] (cond b one (cond c (record { number = n; image = v } ∷ these) these)))
    ≡ length (cond a [] (cond b one (cond c (record { number = m; image = v } ∷ those) those)))
length-if true b c n m v one these those e = refl
length-if false true c n m v one these those e = refl
length-if false false true n m v one these those e = omega arith
length-if false false false n m v one these those e = e

pub any-number : (fs : List Field) (n m : ℕ) → length (versions_from n fs) ≡ length (versions_from m fs)
unfolding versions_from
any-number [] n m = refl
any-number (f ∷ fs) n m =
    length-if (eqb f.tag 1) (eqb f.tag 2) (eqb f.tag 3) n m f.value (versions_from (number_at f.value 0) fs) (versions_from n fs) (versions_from m fs) (any-number fs n m)

counted_if : (b c : Bool) (k n : ℕ) (v : List ℕ) (fs : List Field) → (b ≡ true → c ≡ false)
    → length (cond b (versions_from k fs) (cond c (record { number = n; image = v } ∷ versions_from n fs) (versions_from n fs))) ≡ one_if c + length (versions_from 0 fs)
counted_if true true k n v fs h = absurd (true≢false (h refl))
counted_if true false k n v fs h = omega (arith, any-number fs k 0)
counted_if false true k n v fs h = omega (arith, any-number fs n 0)
counted_if false false k n v fs h = omega (arith, any-number fs n 0)

last-if : (b c : Bool) (told number last : ℕ) (v : List ℕ) (fs : List Field) → (b ≡ true → c ≡ false)
    → latest_from (cond c told last) (versions_from (cond b number told) fs)
    ≡ latest_from last (cond b (versions_from number fs) (cond c (record { number = told; image = v } ∷ versions_from told fs) (versions_from told fs)))
unfolding latest_from
last-if true true told number last v fs h = absurd (true≢false (h refl))
last-if true false told number last v fs h = refl
last-if false true told number last v fs h = refl
last-if false false told number last v fs h = refl

module _ (file : List ℕ) (at : ℕ) {tag start len : ℕ} (st : Stands file at tag start len) where
  module _ (n whole : ℕ) (inv : n + length (versions_from 0 (fields_of (drop at file))) ≡ whole) where
    pub counted-end : tag ≡ 1 → n ≡ whole
    counted-end one = let e : length (versions_from 0 (fields_of (drop at file))) ≡ 0 = ap length (none_here file at st 0 one) in omega arith

    pub counted-on : (tag ≡ 1 → ⊥) → {more : ℕ} → more ≡ one_if (eqb tag 3) → n + more + length (versions_from 0 (fields_of (drop (start + len) file))) ≡ whole
    counted-on other m =
        let e : length (versions_from 0 (fields_of (drop at file))) ≡ one_if (eqb tag 3) + length (versions_from 0 (fields_of (drop (start + len) file))) =
        ap length (from-here file at st 0 other)
        ∙ counted_if (eqb tag 2) (eqb tag 3) (number_at (take len (drop start file)) 0) 0 (take len (drop start file)) (fields_of (drop (start + len) file)) (two-not-three tag) in
        omega arith

  module _ (told last whole : ℕ) (inv : latest_from last (versions_from told (fields_of (drop at file))) ≡ whole) where
    pub last_end : tag ≡ 1 → last ≡ whole
    unfolding latest_from
    last_end one = ap (latest_from last) (sym (none_here file at st told one)) ∙ inv

    pub last_on : (tag ≡ 1 → ⊥) → {later due number : ℕ} → later ≡ cond (eqb tag 3) told last → number ≡ number_at (take len (drop start file)) 0 → due ≡ cond (eqb tag 2) number told
        → latest_from later (versions_from due (fields_of (drop (start + len) file))) ≡ whole
    last_on other l k d =
        ap₂ (λ (x y : ℕ). latest_from x (versions_from y (fields_of (drop (start + len) file)))) l (d ∙ ap (λ (x : ℕ). cond (eqb tag 2) x told) k)
        ∙ last-if (eqb tag 2) (eqb tag 3) told (number_at (take len (drop start file)) 0) last (take len (drop start file)) (fields_of (drop (start + len) file)) (two-not-three tag)
        ∙ ap (latest_from last) (sym (from-here file at st told other))
        ∙ inv

pub counted_none : (here : List ℕ) (n whole : ℕ) → fields_of here ≡ [] → n + length (versions_from 0 (fields_of here)) ≡ whole → n ≡ whole
unfolding versions_from
counted_none here n whole none inv =
    let e : length (versions_from 0 (fields_of here)) ≡ 0 = ap (λ (fs : List Field). length (versions_from 0 fs)) none in omega arith

pub last_none : (here : List ℕ) (told last whole : ℕ) → fields_of here ≡ [] → latest_from last (versions_from told (fields_of here)) ≡ whole → last ≡ whole
unfolding versions_from latest_from
last_none here told last whole none inv = ap (λ (fs : List Field). latest_from last (versions_from told fs)) (sym none) ∙ inv
