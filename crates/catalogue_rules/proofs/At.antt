-- What is known where `field_at` answered, in places of the file.
-- Assumes nothing.
use Prim.Native.Nat.{ℕ, ◌+◌, ◌*◌, ◌-◌, ◌≤◌, ◌<◌}
use mathlib.Core.Path.{◌≡◌, refl, sym, ap, ap₂, ◌∙◌}
use mathlib.Core.Bool.{Bool, true, false}
use mathlib.Core.List.{List, [], ◌∷◌}
use native.Mathlib.Omega.{arith}
use lib.ListN.{length, get_or, take, drop, length-drop, length-take}
use lib.Seq.{get_or-drop, drop-drop}
use Rattle.std.specs.Prelude.{Option, Some, None}
use Rattle.catalogue_rules.specs.declared.Found.{Found}
use Rattle.catalogue_rules.specs.Field.{Field, field, number_at, is_whole, behind, fields_of, left_of, found_if, found_at, found}
use Rattle.catalogue_rules.proofs.Runs.{whole-fits, is_whole_lem, is_cut, fields_step, left_step, fields_stop, left_stop}

module _ (file : List ℕ) (at : ℕ) where
  length_at : number_at (drop at file) 1 ≡ get_or file (at + 1) 0 + 256 * get_or file (at + 2) 0
  length_at = ap₂ (λ (a b : ℕ). a + 256 * b) (get_or-drop at file 1 0) (get_or-drop at file 2 0)

  cut : is_whole (drop at file) ≡ false → None ≡ found_at file at
  cut e = ap (λ (b : Bool). found_if b (drop at file) at) (sym e)

  pub cut_head : length file < at + 3 → None ≡ found_at file at
  cut_head h =
      let e : length (drop at file) < 3 = simp length-drop (omega arith) in
      cut (is_cut (drop at file) (omega arith))

  module _ {low high len : ℕ} (l : low ≡ get_or file (at + 1) 0) (h : high ≡ get_or file (at + 2) 0) (n : len ≡ high * 256 + low) (room : at + 3 ≤ length file) where
    len_at : len ≡ number_at (drop at file) 1
    len_at = let q : len ≡ low + 256 * high = omega arith in q ∙ ap₂ (λ (a b : ℕ). a + 256 * b) l h ∙ sym length_at

    pub cut_value : length file - (at + 3) < len → None ≡ found_at file at
    cut_value short = cut (is_cut (drop at file) (simp length-drop (omega (arith, len_at))))

    pub found_whole : len ≤ length file - (at + 3) → {tag : ℕ} → tag ≡ get_or file at 0 → Some (found tag (at + 3) len) ≡ found_at file at
    found_whole fits {tag} t =
        let w : is_whole (drop at file) ≡ true = is_whole_lem (drop at file) (simp length-drop (omega (arith, len_at))) in
        let z : at + 0 ≡ at = omega arith in
        let d : get_or (drop at file) 0 0 ≡ get_or file at 0 = get_or-drop at file 0 0 ∙ ap (λ (n : ℕ). get_or file n 0) z in
        ap₂ (λ (a b : ℕ). Some (found a (at + 3) b)) (t ∙ sym d) len_at
        ∙ ap (λ (b : Bool). found_if b (drop at file) at) (sym w)

-- A whole field: its value lies in the file, and it is the first of the fields from its place on.
pub record Stands (file : List ℕ) (at tag start len : ℕ) : Type 0 where
  pub behind_head : start ≡ at + 3
  pub fits : start + len ≤ length file
  pub size : length (take len (drop start file)) ≡ len
  pub is_first : fields_of (drop at file) ≡ field tag (take len (drop start file)) ∷ fields_of (drop (start + len) file)
  pub leaves : left_of (drop at file) ≡ left_of (drop (start + len) file)

stands-if : (file : List ℕ) (at tag start len : ℕ) (b : Bool) → is_whole (drop at file) ≡ b
    → Some (found tag start len) ≡ found_if b (drop at file) at → Stands file at tag start len
stands-if file at tag start len false w e = let z : ◌≡◌ {A = ℕ} 0 1 = cc in absurd (omega arith)
stands-if file at tag start len true w e =
    let same : found tag start len ≡ found (get_or (drop at file) 0 0) (at + 3) (number_at (drop at file) 1) = cc in
    let t : tag ≡ get_or (drop at file) 0 0 = ap (λ (f : Found). f.tag) same in
    let s : start ≡ at + 3 = ap (λ (f : Found). f.start) same in
    let l : len ≡ number_at (drop at file) 1 = ap (λ (f : Found). f.len) same in
    let f : 3 + number_at (drop at file) 1 ≤ length (drop at file) = whole-fits (drop at file) w in
    let f' : 3 + number_at (drop at file) 1 ≤ length file - at = rw length-drop at f in
    let v : take (number_at (drop at file) 1) (drop 3 (drop at file)) ≡ take len (drop start file) = ap₂ (λ (n : ℕ) (d : List ℕ). take n d) (sym l) (drop-drop 3 at file ∙ ap (λ (n : ℕ). drop n file) (sym s)) in
    let p : at + (3 + number_at (drop at file) 1) ≡ start + len = omega arith in
    let b : behind (drop at file) ≡ drop (start + len) file = drop-drop (3 + number_at (drop at file) 1) at file ∙ ap (λ (n : ℕ). drop n file) p in
    record {
      behind_head = s;
      fits = omega arith;
      size = simp (length-take, length-drop) (omega arith);
      is_first = fields_step (drop at file) w ∙ ap₂ (λ (x : Field) (fs : List Field). x ∷ fs) (ap₂ field (sym t) v) (ap fields_of b);
      leaves = left_step (drop at file) w ∙ ap left_of b;
    }

pub stands : {file : List ℕ} {at tag start len : ℕ} → Some (found tag start len) ≡ found_at file at → Stands file at tag start len
stands {file} {at} {tag} {start} {len} e = stands-if file at tag start len (is_whole (drop at file)) refl e

-- The same, where an answer was told apart.
pub stood : (file : List ℕ) (at : ℕ) {r : Option Found} {f : Found} → r ≡ Some f → r ≡ found_at file at → Stands file at f.tag f.start f.len
stood file at is e = stands {file = file} {at = at} (sym is ∙ e)

-- No whole field: no field is left, and the rest is.
pub record Stops (file : List ℕ) (at : ℕ) : Type 0 where
  pub none : fields_of (drop at file) ≡ []
  pub rest : left_of (drop at file) ≡ drop at file

stops_if : (file : List ℕ) (at : ℕ) (b : Bool) → is_whole (drop at file) ≡ b → None ≡ found_if b (drop at file) at → Stops file at
stops_if file at true w e = let z : ◌≡◌ {A = ℕ} 0 1 = cc in absurd (omega arith)
stops_if file at false w e = record { none = fields_stop (drop at file) w; rest = left_stop (drop at file) w }

pub stops : {file : List ℕ} {at : ℕ} → None ≡ found_at file at → Stops file at
stops {file} {at} e = stops_if file at (is_whole (drop at file)) refl e

pub stopped : (file : List ℕ) (at : ℕ) {r : Option Found} → r ≡ None → r ≡ found_at file at → Stops file at
stopped file at is e = stops {file = file} {at = at} (sym is ∙ e)

-- A whole field, or none.
module _ (file : List ℕ) (at : ℕ) (P : Type 0) (whole : (tag start len : ℕ) → Stands file at tag start len → P) (end : Stops file at → P) where
  by_whole : (b : Bool) → is_whole (drop at file) ≡ b → P
  by_whole true w = whole _ _ _ (stands {file = file} {at = at} (sym (ap (λ (b : Bool). found_if b (drop at file) at) w)))
  by_whole false w = end (stops {file = file} {at = at} (sym (ap (λ (b : Bool). found_if b (drop at file) at) w)))

  pub either_way : P
  either_way = by_whole (is_whole (drop at file)) refl
