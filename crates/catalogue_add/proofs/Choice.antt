-- Which way an addition goes, and what each way answers and leaves.
-- Assumes nothing.
use Prim.Native.Nat.{ℕ, ◌+◌, ◌≤◌, ◌<◌}
use mathlib.Core.Path.{◌≡◌, refl, sym, ap, ap₂, ◌∙◌}
use mathlib.Core.Bool.{Bool, true, false, cond, ◌||◌, not}
use mathlib.Core.List.{List, ◌∷◌, ◌++◌}
use native.Mathlib.Omega.{arith}
use borrow.Author.Tests.{lt-ltb, le-ltb, le-leb, ltb-true, ltb-false, leb-false, eq-eqb, ne_eqb}
use lib.ListN.{length}
use lib.Dec.{eqb, ltb, leb}
use Rattle.bits.proofs.Tests.{neither}
use Rattle.std.specs.Prelude.{Result, Ok, Err}
use Rattle.refusal.specs.declared.Refusal.{Refusal}
use Rattle.refusal.specs.declared.Refusal.TheVariants.{ArgumentOutside, LengthOutside, NoPlace, ListedTwice}
use Rattle.image_rules.specs.declared.Node.{Node}
use Rattle.image_rules.specs.Image.{check_of}
use Rattle.catalogue_rules.specs.Field.{Field, field, fields_of}
use Rattle.catalogue_rules.specs.declared.Counts.{Counts}
use Rattle.catalogue_rules.specs.Turns.{address_of}
use Rattle.catalogue_rules.specs.Reading.{Reading, catalogue, refused, parsed, has_room, file_of, addresses_of, is_among, any_twice, read, judged, counts}
use Rattle.catalogue_rules.specs.Cards.{versions_at}
use Rattle.catalogue_rules.proofs.Checked.{is_read}
use Rattle.catalogue_rules.proofs.Accepted.{addresses_parsed}
use Rattle.catalogue_rules.proofs.Ways.{is_crowd}
use Rattle.catalogue_rules.specs.Archive.{address_in}
use Rattle.catalogue_rules.specs.Edit as edit
use Rattle.catalogue_rules.specs.Edit.{Change, or_else, if_sound, on_catalogue, version_fields, with_version, latest_number, whose, no_version, no_card, with_added, added_to, added}
use Rattle.catalogue_rules.specs.Put.{put_at}
use Rattle.catalogue_rules.specs.PutContracts.{Writes}
use Rattle.catalogue_rules.proofs.Changes.{settle, unread, refusing, writing}
use Rattle.catalogue_add.proofs.Taken.{Parsed}

-- No place where the first test holds, listed twice where the second does; the refusal of an unsound image; the new file.
pub record Chooses (change : Change) (full twice : Bool) (k : Result Node Refusal) (new : List ℕ) : Type 0 where
  pub is : change ≡ or_else full NoPlace (or_else twice ListedTwice (if_sound k (edit.bytes new)))

module _ {change : Change} {full twice : Bool} {k : Result Node Refusal} {new : List ℕ} (e : Chooses change full twice k new) (area : List ℕ) where
  pub no_place_lem : full ≡ true → Writes change (Err NoPlace) area area
  no_place_lem h = refusing change NoPlace (e.is ∙ ap (λ (b : Bool). or_else b NoPlace (or_else twice ListedTwice (if_sound k (edit.bytes new)))) h) area

  module _ (h : full ≡ false) where
    has-place : change ≡ or_else twice ListedTwice (if_sound k (edit.bytes new))
    has-place = e.is ∙ ap (λ (b : Bool). or_else b NoPlace (or_else twice ListedTwice (if_sound k (edit.bytes new)))) h

    pub is_twice : twice ≡ true → Writes change (Err ListedTwice) area area
    is_twice t = refusing change ListedTwice (has-place ∙ ap (λ (b : Bool). or_else b ListedTwice (if_sound k (edit.bytes new))) t) area

    pub unsound : twice ≡ false → (why : Refusal) → Err why ≡ k → Writes change (Err why) area area
    unsound t why u = refusing change why (has-place ∙ ap₂ (λ (b : Bool) (x : Result Node Refusal). or_else b ListedTwice (if_sound x (edit.bytes new))) t (sym u)) area

    pub sound : twice ≡ false → {node : Node} → Ok node ≡ k → (after : List ℕ) (n : ℕ) → n ≡ length new → after ≡ put_at area 0 new → Writes change (Ok n) area after
    sound t u after n l p = writing change new (has-place ∙ ap₂ (λ (b : Bool) (x : Result Node Refusal). or_else b ListedTwice (if_sound x (edit.bytes new))) t (sym u)) area after n l p

-- What the tests leave.
module _ (cards n : ℕ) (e : (leb 64 cards || ltb 65532 n) ≡ false) where
  pub few_for_card : n < 65533
  few_for_card = let h : n ≤ 65532 = ltb-false 65532 n (neither (leb 64 cards) (ltb 65532 n) e).1 in omega arith

  pub room_for_card : cards ≤ 64
  room_for_card = let h : cards < 64 = leb-false 64 cards (neither (leb 64 cards) (ltb 65532 n) e).0 in omega arith

module _ (cards v last n : ℕ) (e : (ltb 64 cards || (leb 8 v || (leb 65535 last || ltb 65533 n))) ≡ false) where
  on : (leb 8 v || (leb 65535 last || ltb 65533 n)) ≡ false
  on = (neither (ltb 64 cards) (leb 8 v || (leb 65535 last || ltb 65533 n)) e).1

  pub few_for_version : n < 65534
  few_for_version = let h : n ≤ 65533 = ltb-false 65533 n (neither (leb 65535 last) (ltb 65533 n) (neither (leb 8 v) (leb 65535 last || ltb 65533 n) on).1).1 in omega arith

  pub room_for_version : cards ≤ 64
  room_for_version = ltb-false 64 cards (neither (ltb 64 cards) (leb 8 v || (leb 65535 last || ltb 65533 n)) e).0

-- More than 64 cards are 64 at least.
crowd_if : (t : Bool) (c : ℕ) (x : Bool) → ltb 64 c ≡ t → t || (leb 64 c || x) ≡ leb 64 c || x
crowd_if false c x e = refl
crowd_if true c x e = let h : 64 < c = ltb-true 64 c e in ap (λ (b : Bool). b || x) (sym (le-leb 64 c (omega arith)))

-- A card that is not there, and one that is.
abbrev for_card : List ℕ → List Field → Bool → ℕ → ℕ → Change
for_card image fs twice cards n =
    or_else (ltb 64 cards || (leb 64 cards || ltb 65532 n)) NoPlace (or_else twice ListedTwice (if_sound (check_of image) (edit.bytes (file_of (fs ++ (field 1 (address_in image) ∷ version_fields 1 image))))))

abbrev for_version : List ℕ → List Field → Bool → ℕ → ℕ → ℕ → ℕ → Change
for_version image fs twice cards v last n =
    or_else (ltb 64 cards || (leb 8 v || (leb 65535 last || ltb 65533 n))) NoPlace
    (or_else twice ListedTwice (if_sound (check_of image) (edit.bytes (file_of (with_version (address_of (address_in image)) (version_fields (last + 1) image) fs)))))

module _ (file : List ℕ) (fs : List Field) (e : parsed file ≡ catalogue fs) (image : List ℕ) where
  chosen : (b : Bool) → is_among (address_of (address_in image)) (addresses_of (fields_of file)) ≡ b
      → on_catalogue (parsed file) (added_to image)
      ≡ or_else (ltb 64 (length (addresses_of fs)) || cond b (no_version (whose image) fs) (no_card fs)) NoPlace
      (or_else (any_twice (addresses_of (fields_of file))) ListedTwice
      (if_sound (check_of image)
      (edit.bytes (file_of (cond b (with_version (whose image) (version_fields (latest_number (versions_at (whose image) fs) + 1) image) fs) (fs ++ (field 1 (address_in image) ∷ version_fields 1 image)))))))
  unfolding added_to with_added
  chosen b y =
      ap (λ (x : Reading). on_catalogue x (added_to image)) e
      ∙ ap (λ (t : Bool). or_else (not (has_room fs) || cond t (no_version (whose image) fs) (no_card fs)) NoPlace
      (or_else (any_twice (addresses_of fs)) ListedTwice
      (if_sound (check_of image)
      (edit.bytes (file_of (cond t (with_version (whose image) (version_fields (latest_number (versions_at (whose image) fs) + 1) image) fs) (fs ++ (field 1 (address_in image) ∷ version_fields 1 image))))))))
      (ap (is_among (whose image)) (sym (addresses_parsed file fs e)) ∙ y)
      ∙ ap₂ (λ (t : Bool) (l : List ℕ). or_else (t || cond b (no_version (whose image) fs) (no_card fs)) NoPlace
      (or_else (any_twice l) ListedTwice
      (if_sound (check_of image)
      (edit.bytes (file_of (cond b (with_version (whose image) (version_fields (latest_number (versions_at (whose image) fs) + 1) image) fs) (fs ++ (field 1 (address_in image) ∷ version_fields 1 image))))))))
      (is_crowd (length (addresses_of fs))) (sym (addresses_parsed file fs e))

  module _ {cards n : ℕ} (c : cards ≡ length (addresses_of (fields_of file))) (m : n ≡ length fs) {twice : Bool} (t : twice ≡ any_twice (addresses_of (fields_of file))) where
    cards-here : length (addresses_of fs) ≡ cards
    cards-here = sym (c ∙ ap length (addresses_parsed file fs e))

    pub card_choice : is_among (address_of (address_in image)) (addresses_of (fields_of file)) ≡ false
        → Chooses (on_catalogue (parsed file) (added_to image)) (leb 64 cards || ltb 65532 n) twice (check_of image) (file_of (fs ++ (field 1 (address_in image) ∷ version_fields 1 image)))
    card_choice y =
        record {
          is = chosen false y
              ∙ ap₂ (λ (x z : ℕ). for_card image fs (any_twice (addresses_of (fields_of file))) x z) cards-here (sym m)
              ∙ ap₂ (λ (x w : Bool). or_else x NoPlace (or_else w ListedTwice (if_sound (check_of image) (edit.bytes (file_of (fs ++ (field 1 (address_in image) ∷ version_fields 1 image))))))) (crowd_if (ltb 64 cards) cards (ltb 65532 n) refl) (sym t);
        }

    pub version_choice : is_among (address_of (address_in image)) (addresses_of (fields_of file)) ≡ true
        → {v last : ℕ} → v ≡ length (versions_at (address_of (address_in image)) fs) → last ≡ latest_number (versions_at (address_of (address_in image)) fs)
        → Chooses (on_catalogue (parsed file) (added_to image)) (ltb 64 cards || (leb 8 v || (leb 65535 last || ltb 65533 n))) twice (check_of image)
        (file_of (with_version (address_of (address_in image)) (version_fields (last + 1) image) fs))
    version_choice y {v} {last} p q =
        record {
          is = chosen true y
              ∙ ap₂ (λ (x z : ℕ). for_version image fs (any_twice (addresses_of (fields_of file))) x (length (versions_at (whose image) fs)) (latest_number (versions_at (whose image) fs)) z) cards-here (sym m)
              ∙ ap₂ (λ (x z : ℕ). for_version image fs (any_twice (addresses_of (fields_of file))) cards x z n) (sym p) (sym q)
              ∙ ap (λ (w : Bool). for_version image fs w cards v last n) (sym t);
        }

    -- Behind the tests the file is a sound one.
    pub was_sound : cards ≤ 64 → twice ≡ false → read file ≡ catalogue fs
    was_sound h w =
        is_read file fs e (le-leb (length (addresses_of fs)) 64 (omega (arith, cards-here))) (ap any_twice (sym (addresses_parsed file fs e)) ∙ sym t ∙ w)

-- The tests before: the area, the image's length, the file.
module _ (file image area : List ℕ) where
  pub short : length area < length file + 145 → Writes (added (length area) file image) (Err ArgumentOutside) area area
  unfolding added
  short h = refusing _ ArgumentOutside (ap (λ (b : Bool). or_else b ArgumentOutside (or_else (not (eqb (length image) 128)) LengthOutside (on_catalogue (parsed file) (added_to image)))) (lt-ltb (length area) (length file + 145) h)) area

  module _ (fits : length file + 145 ≤ length area) where
    roomy : added (length area) file image ≡ or_else (not (eqb (length image) 128)) LengthOutside (on_catalogue (parsed file) (added_to image))
    unfolding added
    roomy = ap (λ (b : Bool). or_else b ArgumentOutside (or_else (not (eqb (length image) 128)) LengthOutside (on_catalogue (parsed file) (added_to image)))) (le-ltb (length area) (length file + 145) fits)

    pub wrong_length : (length image ≡ 128 → ⊥) → Writes (added (length area) file image) (Err LengthOutside) area area
    wrong_length h = refusing _ LengthOutside (roomy ∙ ap (λ (b : Bool). or_else (not b) LengthOutside (on_catalogue (parsed file) (added_to image))) (ne_eqb (length image) 128 h)) area

    module _ (l : length image ≡ 128) where
      passed : added (length area) file image ≡ on_catalogue (parsed file) (added_to image)
      passed = roomy ∙ ap (λ (b : Bool). or_else (not b) LengthOutside (on_catalogue (parsed file) (added_to image))) (eq-eqb (length image) 128 l)

      pub damaged : (why : Refusal) → Err why ≡ judged (parsed file) → Writes (added (length area) file image) (Err why) area area
      damaged why e = refusing _ why (passed ∙ unread (added_to image) (parsed file) why e) area

      pub goes_on_lem : {taken : List ℕ} → taken ≡ image → {answer : Result ℕ Refusal} {after : List ℕ}
          → Writes (on_catalogue (parsed file) (added_to taken)) answer area after → Writes (added (length area) file image) answer area after
      goes_on_lem same d = settle area (passed ∙ ap (λ (x : List ℕ). on_catalogue (parsed file) (added_to x)) (sym same)) d.0 d.1

-- What the walk over the fields told.
parsed-if : (file : List ℕ) (r : Reading) (told : Counts) → parsed file ≡ r → Ok told ≡ judged r → Parsed file told.cards told.fields
parsed-if file (catalogue fs) told q e =
    let same : told ≡ counts (length (addresses_of fs)) (length fs) = cc in
    record { those = fs; is_parsed = q; listed = ap (λ (c : Counts). c.cards) same ∙ ap length (sym (addresses_parsed file fs q)); many = ap (λ (c : Counts). c.fields) same }
parsed-if file (refused why) told q e = let z : ◌≡◌ {A = ℕ} 0 1 = cc in absurd (omega arith)

pub was_parsed_lem : (file : List ℕ) {told : Counts} → Ok told ≡ judged (parsed file) → Parsed file told.cards told.fields
was_parsed_lem file {told} e = parsed-if file (parsed file) told refl e
