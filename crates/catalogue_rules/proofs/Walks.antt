-- The walk's turns over plain lists: the fields from a place on, behind those passed, always read as the whole.
-- Assumes nothing.
use Prim.Native.Nat.{ℕ, ◌≤◌, suc, ◌+◌}
use mathlib.Core.Path.{◌≡◌, refl, sym, ap, ap₂, subst, ◌∙◌}
use mathlib.Core.Bool.{Bool, true, false, cond}
use mathlib.Core.List.{List, [], ◌∷◌}
use native.Mathlib.Omega.{arith}
use borrow.Author.Tests.{ne_eqb}
use lib.ListN.{length}
use lib.Dec.{eqb}
use mir.Val.{bool_byte}
use Rattle.std.specs.Prelude.{Result, Ok, Err}
use Rattle.refusal.specs.declared.Refusal.{Refusal}
use Rattle.catalogue_rules.specs.declared.Counts.{Counts}
use Rattle.refusal.specs.declared.Refusal.TheVariants.{FieldDamaged, FileEndsEarly}
use Rattle.catalogue_rules.specs.Field.{Field, field, fields_of, left_of}
use Rattle.catalogue_rules.specs.declared.Turn.{Turn}
use Rattle.catalogue_rules.specs.Turns.{after, is_damaged}
use Rattle.catalogue_rules.specs.Reading.{Reading, catalogue, refused, with, reading, addresses_of, judged, counts}
use Rattle.catalogue_rules.proofs.Bools.{passes}
use Rattle.catalogue_rules.specs.FileWalk.{behind_so, closes, one_if}

pub at_start : (j : Result Counts Refusal) → behind_so 0 0 j ≡ j
at_start (Ok told) = let p : 0 + told.cards ≡ told.cards = omega arith in let q : 0 + told.fields ≡ told.fields = omega arith in ap₂ (λ (x y : ℕ). Ok (counts x y)) p q
at_start (Err why) = refl

-- A test as a number.
pub one_byte : {n : ℕ} (b : Bool) → n ≡ bool_byte b → n ≡ one_if b
one_byte true e = e
one_byte false e = e

pub one_most : {n : ℕ} (b : Bool) → n ≡ bool_byte b → n ≤ 1
one_most true e = omega arith
one_most false e = omega arith

pub one_more : (t : Bool) (a : ℕ) (l : List ℕ) → length (cond t (a ∷ l) l) ≡ one_if t + length l
one_more true a l = omega arith
one_more false a l = omega arith

with_law : (cards n : ℕ) (f : Field) (r : Reading) → behind_so (cards + one_if (eqb f.tag 1)) (n + 1) (judged r) ≡ behind_so cards n (judged (with f r))
unfolding addresses_of
with_law cards n f (catalogue gs) =
    let e : length (addresses_of (f ∷ gs)) ≡ one_if (eqb f.tag 1) + length (addresses_of gs) = one_more (eqb f.tag 1) _ (addresses_of gs) in
    let p : cards + one_if (eqb f.tag 1) + length (addresses_of gs) ≡ cards + length (addresses_of (f ∷ gs)) = omega arith in
    let q : n + 1 + length gs ≡ n + suc (length gs) = omega arith in
    ap₂ (λ (x y : ℕ). Ok (counts x y)) p q
with_law cards n f (refused why) = refl

stays : (a d : Bool) (x y r : Reading) → a ≡ false → d ≡ true → cond a x (cond d y r) ≡ y
stays a d x y r e f = rw (e, f)

module _ (turn t' : Turn) (n cards : ℕ) (f : Field) (fs : List Field) (left : List ℕ) (whole : Result Counts Refusal)
    (other : f.tag ≡ 4 → ⊥) (next : t' ≡ after turn f)
    (inv : behind_so cards n (judged (reading turn n (f ∷ fs) left)) ≡ whole) where
  pub step_law : is_damaged t' ≡ false → {k : ℕ} → k ≡ one_if (eqb f.tag 1)
      → behind_so (cards + k) (n + 1) (judged (reading t' (n + 1) fs left)) ≡ whole
  unfolding reading
  step_law d {k} one =
      ap₂ (λ (x : ℕ) (t : Turn). behind_so (cards + x) (n + 1) (judged (reading t (n + 1) fs left))) one next
      ∙ with_law cards n f (reading (after turn f) (n + 1) fs left)
      ∙ ap (λ (r : Reading). behind_so cards n (judged r)) (sym (passes (eqb f.tag 4) (is_damaged (after turn f)) _ (refused FieldDamaged) _ (ne_eqb f.tag 4 other) (ap is_damaged (sym next) ∙ d)))
      ∙ inv

  pub damage_law : is_damaged t' ≡ true → Err FieldDamaged ≡ whole
  unfolding reading
  damage_law d =
      ap (λ (r : Reading). behind_so cards n (judged r)) (sym (stays (eqb f.tag 4) (is_damaged (after turn f)) _ (refused FieldDamaged) _ (ne_eqb f.tag 4 other) (ap is_damaged (sym next) ∙ d)))
      ∙ inv

-- The same at a place of the file.
module _ (turn : Turn) (n cards : ℕ) (here : List ℕ) (whole : Result Counts Refusal)
    (inv : behind_so cards n (judged (reading turn n (fields_of here) (left_of here))) ≡ whole) where
  pub early_law : fields_of here ≡ [] → Err FileEndsEarly ≡ whole
  unfolding reading
  early_law e = subst (λ (fs : List Field). behind_so cards n (judged (reading turn n fs (left_of here))) ≡ whole) e inv

  module _ (f : Field) (next : List ℕ) (is_first : fields_of here ≡ f ∷ fields_of next) (leaves : left_of here ≡ left_of next) where
    pub moved : behind_so cards n (judged (reading turn n (f ∷ fields_of next) (left_of next))) ≡ whole
    moved = ap₂ (λ (fs : List Field) (l : List ℕ). behind_so cards n (judged (reading turn n fs l))) (sym is_first) (sym leaves) ∙ inv

-- The count is the last field.
pub end_law : (turn : Turn) (n cards tag : ℕ) (v rest : List ℕ) (whole : Result Counts Refusal) → tag ≡ 4
    → behind_so cards n (judged (reading turn n (field tag v ∷ fields_of rest) (left_of rest))) ≡ whole
    → closes turn n cards (field 4 v) rest ≡ whole
unfolding reading closes
end_law turn n cards tag v rest whole e inv =
    subst (λ (t : ℕ). behind_so cards n (judged (reading turn n (field t v ∷ fields_of rest) (left_of rest))) ≡ whole) e inv
