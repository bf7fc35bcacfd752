-- A field passed in the search for an address.
-- Assumes nothing.
use Prim.Native.Nat.{ℕ}
use mathlib.Core.Path.{◌≡◌, refl, sym, ap, ◌∙◌}
use mathlib.Core.Bool.{Bool, true, false, cond, ◌&&◌, ◌||◌}
use mathlib.Core.List.{List, [], ◌∷◌}
use lib.Dec.{eqb}
use Rattle.catalogue_rules.specs.Field.{Field, field, fields_of}
use Rattle.catalogue_rules.specs.Turns.{address_of}
use Rattle.catalogue_rules.specs.Reading.{addresses_of, is_among, any_twice}
use Rattle.catalogue_rules.specs.Edit.{is_card}
use Rattle.catalogue_rules.proofs.Bools.{or_yes, or_no}

among_if : (t : Bool) (a x : ℕ) (l : List ℕ) → is_among a (cond t (x ∷ l) l) ≡ (t && eqb x a) || is_among a l
among_if true a x l = refl
among_if false a x l = refl

pub among_is : (f : Field) (fs : List Field) (a : ℕ) → is_among a (addresses_of (f ∷ fs)) ≡ is_card a f || is_among a (addresses_of fs)
unfolding addresses_of
among_is f fs a = among_if (eqb f.tag 1) a (address_of f.value) (addresses_of fs)

twice_if : (t : Bool) (x : ℕ) (l : List ℕ) → any_twice (cond t (x ∷ l) l) ≡ (t && is_among x l) || any_twice l
unfolding any_twice
twice_if true x l = refl
twice_if false x l = refl

module _ (here : List ℕ) (tag : ℕ) (v next : List ℕ) (is_first : fields_of here ≡ field tag v ∷ fields_of next) where
  among_step : (a : ℕ) → is_among a (addresses_of (fields_of here)) ≡ (eqb tag 1 && eqb (address_of v) a) || is_among a (addresses_of (fields_of next))
  among_step a = ap (λ (fs : List Field). is_among a (addresses_of fs)) is_first ∙ among_is (field tag v) (fields_of next) a

  twice_step : any_twice (addresses_of (fields_of here)) ≡ (eqb tag 1 && is_among (address_of v) (addresses_of (fields_of next))) || any_twice (addresses_of (fields_of next))
  unfolding addresses_of
  twice_step = ap (λ (fs : List Field). any_twice (addresses_of fs)) is_first ∙ twice_if (eqb tag 1) (address_of v) (addresses_of (fields_of next))

  module _ (a : ℕ) {t : Bool} (hit : t ≡ (eqb tag 1 && eqb (address_of v) a)) {whole : Bool} (inv : is_among a (addresses_of (fields_of here)) ≡ whole) where
    pub among_hit : t ≡ true → true ≡ whole
    among_hit e = sym (or_yes (eqb tag 1 && eqb (address_of v) a) (is_among a (addresses_of (fields_of next))) (sym hit ∙ e)) ∙ sym (among_step a) ∙ inv

    pub among_on : t ≡ false → is_among a (addresses_of (fields_of next)) ≡ whole
    among_on e = sym (or_no (eqb tag 1 && eqb (address_of v) a) (is_among a (addresses_of (fields_of next))) (sym hit ∙ e)) ∙ sym (among_step a) ∙ inv

  module _ {t : Bool} (hit : t ≡ (eqb tag 1 && is_among (address_of v) (addresses_of (fields_of next)))) {whole : Bool} (inv : any_twice (addresses_of (fields_of here)) ≡ whole) where
    pub twice_hit : t ≡ true → true ≡ whole
    twice_hit e = sym (or_yes (eqb tag 1 && is_among (address_of v) (addresses_of (fields_of next))) (any_twice (addresses_of (fields_of next))) (sym hit ∙ e)) ∙ sym twice_step ∙ inv

    pub twice_on : t ≡ false → any_twice (addresses_of (fields_of next)) ≡ whole
    twice_on e = sym (or_no (eqb tag 1 && is_among (address_of v) (addresses_of (fields_of next))) (any_twice (addresses_of (fields_of next))) (sym hit ∙ e)) ∙ sym twice_step ∙ inv

pub among_none : (here : List ℕ) (a : ℕ) {whole : Bool} → fields_of here ≡ [] → is_among a (addresses_of (fields_of here)) ≡ whole → false ≡ whole
unfolding addresses_of
among_none here a none inv = ap (λ (fs : List Field). is_among a (addresses_of fs)) (sym none) ∙ inv

pub twice_none : (here : List ℕ) {whole : Bool} → fields_of here ≡ [] → any_twice (addresses_of (fields_of here)) ≡ whole → false ≡ whole
unfolding addresses_of any_twice
twice_none here none inv = ap (λ (fs : List Field). any_twice (addresses_of fs)) (sym none) ∙ inv
