-- An accepted file: its images have 128 bytes, it has at most 64 cards, and the count at its end is no card.
-- Assumes nothing.
use Prim.Native.Nat.{ℕ, ◌≤◌, ◌<◌}
use mathlib.Core.Path.{◌≡◌, refl, sym, ap, ap₂, subst, ◌∙◌}
use mathlib.Core.Bool.{true, false, cond, ◌&&◌, not}
use mathlib.Core.List.{List, [], ◌∷◌, ◌++◌}
use native.Mathlib.Omega.{arith}
use borrow.Author.Tests.{eqb-true, not-true, lt-ltb, le-ltb}
use lib.ListN.{length}
use lib.Dec.{eqb}
use Rattle.std.specs.Prelude.{Ok, Err}
use Rattle.refusal.specs.declared.Refusal.{Refusal}
use Rattle.refusal.specs.declared.Refusal.TheVariants.{ArgumentOutside}
use Rattle.catalogue_rules.specs.Field.{Field, field, number_at, fields_of, left_of}
use Rattle.catalogue_rules.specs.declared.Turn.{Turn}
use Rattle.catalogue_rules.specs.declared.Turn.TheVariants.{Begun, Damaged}
use Rattle.catalogue_rules.specs.declared.Counts.{Counts}
use Rattle.catalogue_rules.specs.Turns.{address_of, after_address, after_number, after_image, after, is_damaged}
use Rattle.catalogue_rules.specs.Reading.{Reading, catalogue, refused, addresses_of, read, judged}
use Rattle.catalogue_rules.specs.Cards.{Version, Card, cards_of}
use Rattle.catalogue_rules.proofs.Bools.{and_left, and_right}
use Rattle.catalogue_rules.proofs.Came.{Came, came, same_addresses}
use Rattle.catalogue_rules.specs.RoundTrip.{in_turn, WellFormed}
use Rattle.catalogue_rules.specs.RoundTrip as law
use Rattle.catalogue_rules.proofs.Fit.{accepted_is_well_formed_lem}
use Rattle.catalogue_rules.proofs.Accepted.{from-append, was_read_lem}
use Rattle.catalogue_rules.specs.Archive.{row_of, images_of, moved_out}
use Rattle.catalogue_rules.specs.Edit.{on_catalogue, bytes, no, exported}
use Rattle.catalogue_row.specs.Row.{Images}
use Rattle.catalogue_rules.specs.PutContracts.{Writes}
use Rattle.catalogue_rules.proofs.Changes.{or_else_lem, or_on, refusing}
use Rattle.catalogue_rules.proofs.Turning.{held}

-- ---- an image in turn has 128 bytes

image-size : (turn : Turn) (f : Field) → is_damaged (after turn f) ≡ false → f.tag ≡ 3 → length f.value ≡ 128
unfolding after
image-size turn f d e =
    let a : after turn f ≡ cond (eqb (length f.value) 128) (after_image turn) Damaged =
    ap (λ (t : ℕ).
    cond (eqb t 1) (cond (eqb (length f.value) 6) (after_address turn) Damaged)
    (cond (eqb t 2) (cond (eqb (length f.value) 2) (after_number turn (number_at f.value 0)) Damaged)
    (cond (eqb t 3) (cond (eqb (length f.value) 128) (after_image turn) Damaged) turn))) e in
    eqb-true (length f.value) 128 (held (eqb (length f.value) 128) (after_image turn) (ap is_damaged (sym a) ∙ d))

turn_images : (turn : Turn) (fs : List Field) → in_turn turn fs ≡ true → Images fs
unfolding in_turn Images
turn_images turn [] t = tt
turn_images turn (f ∷ fs) t =
    let b : not (is_damaged (after turn f)) && in_turn (after turn f) fs ≡ true = and_right (not (eqb f.tag 4)) (not (is_damaged (after turn f)) && in_turn (after turn f) fs) t in
    let d : is_damaged (after turn f) ≡ false = not-true (is_damaged (after turn f)) (and_left (not (is_damaged (after turn f))) (in_turn (after turn f) fs) b) in
    let r : in_turn (after turn f) fs ≡ true = and_right (not (is_damaged (after turn f))) (in_turn (after turn f) fs) b in
    (image-size turn f d, turn_images (after turn f) fs r)

-- ---- the count is no image and no card

images_append : (fs : List Field) (v : List ℕ) → Images fs → Images (fs ++ (field 4 v ∷ []))
unfolding Images
images_append [] v s = ((λ e. absurd (omega arith)), tt)
images_append (f ∷ fs) v s = (s.0, images_append fs v s.1)

cards-append : (fs : List Field) (v : List ℕ) → cards_of (fs ++ (field 4 v ∷ [])) ≡ cards_of fs
unfolding cards_of
cards-append [] v = refl
cards-append (f ∷ fs) v =
    ap₂ (λ (vs : List Version) (cards : List Card). cond (eqb f.tag 1) (record { address = address_of f.value; versions = vs } ∷ cards) cards)
    (from-append fs 0 v) (cards-append fs v)

-- ---- what an export needs to know of a file

pub record Fitting (area : ℕ) (file : List ℕ) : Type 0 where
  pub images : Images (fields_of file)
  pub few : length (addresses_of (fields_of file)) ≤ 64
  pub is : exported area file ≡ bytes (moved_out (fields_of file))

module _ (area : ℕ) (room : 8192 ≤ area) where
  exported_of : (file : List ℕ) → exported area file ≡ on_catalogue (read file) (λ fs. bytes (moved_out fs))
  unfolding exported
  exported_of file = or_on _ _ _ (le-ltb area 8192 room)

  pub exported_fields : (file : List ℕ) (fs : List Field) → read file ≡ catalogue fs → exported area file ≡ bytes (moved_out fs)
  exported_fields file fs e = exported_of file ∙ ap (λ (r : Reading). on_catalogue r (λ fs. bytes (moved_out fs))) e

  fitting_if : (file : List ℕ) → law.Bytes file → (r : Reading) → read file ≡ r → (told : Counts) → Ok told ≡ judged r → Fitting area file
  fitting_if file b (refused why) q told e = let z : ◌≡◌ {A = ℕ} 0 1 = cc in absurd (omega arith)
  fitting_if file b (catalogue fs) q told e =
      let w : WellFormed fs = accepted_is_well_formed_lem file fs b q in
      let m : Came 0 (fields_of file) (left_of file) fs = came (fields_of file) Begun 0 (left_of file) fs (was_read_lem file fs q) in
      let a : length (addresses_of (fields_of file)) ≡ length (addresses_of fs) = ap length (same_addresses (fields_of file) Begun 0 (left_of file) fs (was_read_lem file fs q)) in
      record {
        images = subst (λ (gs : List Field). Images gs) (sym m.are) (images_append fs m.value (turn_images Begun fs w.turns));
        few = omega (arith, w.cards);
        is =
            exported_fields file fs q
            ∙ ap (λ (cards : List Card). bytes (row_of (images_of cards))) (sym (cards-append fs m.value) ∙ ap cards_of (sym m.are));
      }

  pub fitting : (file : List ℕ) → law.Bytes file → {told : Counts} → Ok told ≡ judged (read file) → Fitting area file
  fitting file b {told} e = fitting_if file b (read file) refl told e

  damaged-if : (r : Reading) (why : Refusal) → Err why ≡ judged r → on_catalogue r (λ fs. bytes (moved_out fs)) ≡ no why
  damaged-if (catalogue fs) why e = let z : ◌≡◌ {A = ℕ} 0 1 = cc in absurd (omega arith)
  damaged-if (refused other) why e = let q : other ≡ why = cc in ap no q

  not-exported : (file : List ℕ) (why : Refusal) → Err why ≡ judged (read file) → exported area file ≡ no why
  not-exported file why e = exported_of file ∙ damaged-if (read file) why e

module _ (out file : List ℕ) where
  pub narrow : length out < 8192 → Writes (exported (length out) file) (Err ArgumentOutside) out out
  unfolding exported
  narrow h = refusing _ _ (or_else_lem _ _ _ (lt-ltb (length out) 8192 h)) out

  pub damaged : 8192 ≤ length out → (why : Refusal) → Err why ≡ judged (read file) → Writes (exported (length out) file) (Err why) out out
  damaged h why e = refusing _ _ (not-exported (length out) h file why e) out
