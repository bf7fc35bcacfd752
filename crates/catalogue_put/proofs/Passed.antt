-- A field passed on the way to a place, or while versions are counted.
-- Assumes nothing.
use Prim.Native.Nat.{ℕ, ◌+◌}
use mathlib.Core.Path.{◌≡◌, refl, sym, ap, ap₂, ◌∙◌}
use mathlib.Core.Bool.{Bool, true, false, cond, ◌&&◌, ◌||◌}
use mathlib.Core.List.{List, [], ◌∷◌}
use native.Mathlib.Omega.{arith}
use lib.ListN.{length, take, drop}
use lib.Dec.{eqb}
use Rattle.std.specs.Prelude.{Option, Some, None}
use Rattle.catalogue_rules.specs.Field.{Field, size_of, field, fields_of}
use Rattle.catalogue_rules.proofs.At.{Stands}
use Rattle.catalogue_rules.specs.Turns.{address_of}
use Rattle.catalogue_rules.specs.Reading.{addresses_of, is_among}
use Rattle.catalogue_rules.proofs.Seen.{among_hit, among_on, among_none}
use Rattle.catalogue_put.specs.Places.{card_place, card_end, field_place, seek_if}

-- ---- a place: the sizes of the fields up to one that stops

module _ (placed : List Field → ℕ) (stop : Field → Bool) (empty : placed [] ≡ 0)
    (next : (f : Field) (fs : List Field) → placed (f ∷ fs) ≡ cond (stop f) 0 (size_of f + placed fs))
    (file : List ℕ) (at whole : ℕ) (inv : at + placed (fields_of (drop at file)) ≡ whole) where
  pub place_none : fields_of (drop at file) ≡ [] → at ≡ whole
  place_none none = let e : placed (fields_of (drop at file)) ≡ 0 = ap placed none ∙ empty in omega arith

  module _ {tag start len : ℕ} (st : Stands file at tag start len) where
    here : placed (fields_of (drop at file)) ≡ cond (stop (field tag (take len (drop start file)))) 0 (3 + length (take len (drop start file)) + placed (fields_of (drop (start + len) file)))
    here = ap placed st.is_first ∙ next (field tag (take len (drop start file))) (fields_of (drop (start + len) file))

    pub place_stop : stop (field tag (take len (drop start file))) ≡ true → at ≡ whole
    place_stop e =
        let z : placed (fields_of (drop at file)) ≡ 0 = here ∙ ap (λ (b : Bool). cond b 0 (3 + length (take len (drop start file)) + placed (fields_of (drop (start + len) file)))) e in
        omega arith

    pub place-on : stop (field tag (take len (drop start file))) ≡ false → start + len + placed (fields_of (drop (start + len) file)) ≡ whole
    place-on e =
        let z : placed (fields_of (drop at file)) ≡ 3 + length (take len (drop start file)) + placed (fields_of (drop (start + len) file)) =
        here ∙ ap (λ (b : Bool). cond b 0 (3 + length (take len (drop start file)) + placed (fields_of (drop (start + len) file)))) e in
        let b : start ≡ at + 3 = st.behind_head in
        let s : length (take len (drop start file)) ≡ len = st.size in
        omega arith

abbrev pub is_end : Field → Bool
is_end f = eqb f.tag 1 || eqb f.tag 4

pub end_empty : card_end [] ≡ 0
unfolding card_end
end_empty = refl

pub end-next : (f : Field) (fs : List Field) → card_end (f ∷ fs) ≡ cond (is_end f) 0 (size_of f + card_end fs)
unfolding card_end
end-next f fs = refl

abbrev pub is_tagged : ℕ → Field → Bool
is_tagged t f = eqb f.tag t

pub tagged-empty : (t : ℕ) → field_place t [] ≡ 0
unfolding field_place
tagged-empty t = refl

pub tagged-next : (t : ℕ) (f : Field) (fs : List Field) → field_place t (f ∷ fs) ≡ cond (is_tagged t f) 0 (size_of f + field_place t fs)
unfolding field_place
tagged-next t f fs = refl

-- ---- the card

pub card_nowhere : (a at : ℕ) (here : List ℕ) (whole : Option ℕ) → fields_of here ≡ []
    → seek_if (is_among a (addresses_of (fields_of here))) (at + card_place a (fields_of here)) ≡ whole → None ≡ whole
card_nowhere a at here whole none inv =
    ap (λ (b : Bool). seek_if b (at + card_place a (fields_of here))) (among_none here a none refl) ∙ inv

module _ (a : ℕ) (file : List ℕ) (at : ℕ) (whole : Option ℕ) (inv : seek_if (is_among a (addresses_of (fields_of (drop at file)))) (at + card_place a (fields_of (drop at file))) ≡ whole)
    {tag start len : ℕ} (st : Stands file at tag start len) {t : Bool} (hit : t ≡ (eqb tag 1 && eqb (address_of (take len (drop start file))) a)) where
  place_here : card_place a (fields_of (drop at file)) ≡ cond t (3 + length (take len (drop start file))) (3 + length (take len (drop start file)) + card_place a (fields_of (drop (start + len) file)))
  unfolding card_place
  place_here =
      ap (card_place a) st.is_first
      ∙ ap (λ (b : Bool). cond b (3 + length (take len (drop start file))) (3 + length (take len (drop start file)) + card_place a (fields_of (drop (start + len) file)))) (sym hit)

  pub card-here : t ≡ true → Some (start + len) ≡ whole
  card-here e =
      let b : start ≡ at + 3 = st.behind_head in
      let s : length (take len (drop start file)) ≡ len = st.size in
      let p : card_place a (fields_of (drop at file)) ≡ 3 + length (take len (drop start file)) =
      place_here ∙ ap (λ (b : Bool). cond b (3 + length (take len (drop start file))) (3 + length (take len (drop start file)) + card_place a (fields_of (drop (start + len) file)))) e in
      let n : start + len ≡ at + card_place a (fields_of (drop at file)) = omega arith in
      ap Some n
      ∙ ap (λ (b : Bool). seek_if b (at + card_place a (fields_of (drop at file)))) (among_hit (drop at file) tag (take len (drop start file)) (drop (start + len) file) st.is_first a hit refl e)
      ∙ inv

  pub card-later : t ≡ false → seek_if (is_among a (addresses_of (fields_of (drop (start + len) file)))) (start + len + card_place a (fields_of (drop (start + len) file))) ≡ whole
  card-later e =
      let b : start ≡ at + 3 = st.behind_head in
      let s : length (take len (drop start file)) ≡ len = st.size in
      let p : card_place a (fields_of (drop at file)) ≡ 3 + length (take len (drop start file)) + card_place a (fields_of (drop (start + len) file)) =
      place_here ∙ ap (λ (b : Bool). cond b (3 + length (take len (drop start file))) (3 + length (take len (drop start file)) + card_place a (fields_of (drop (start + len) file)))) e in
      let n : start + len + card_place a (fields_of (drop (start + len) file)) ≡ at + card_place a (fields_of (drop at file)) = omega arith in
      ap₂ (λ (b : Bool) (k : ℕ). seek_if b k) (among_on (drop at file) tag (take len (drop start file)) (drop (start + len) file) st.is_first a hit refl e) n
      ∙ inv

pub from_zero : (n : ℕ) → 0 + n ≡ n
from_zero n = omega arith
