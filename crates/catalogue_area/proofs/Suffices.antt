-- The area suffices: the file's size is bounded, so that the test of the area passes, and nothing behind it answers 12.
-- A full catalogue has no place: a card that is listed has eight versions, and one that is not finds 64 before it.
-- Assumes nothing.
use Prim.Native.Nat.{ℕ, ◌+◌, ◌*◌, ◌/◌, ◌%◌, ◌≤◌}
use mathlib.Core.Path.{◌≡◌, refl, ap, sym, ◌∙◌}
use mathlib.Core.Bool.{Bool, true, false, cond, ◌||◌, not}
use mathlib.Core.List.{List, [], ◌∷◌}
use native.Mathlib.Omega.{arith}
use borrow.Author.Tests.{le-ltb, le-leb, eq-eqb}
use lib.ListN.{length}
use lib.Dec.{eqb, ltb}
use Rattle.bits.proofs.Tests.{never}
use Rattle.refusal.specs.declared.Refusal.TheVariants.{ArgumentOutside, LengthOutside, NoPlace, ListedTwice}
use Rattle.catalogue_rules.specs.Field.{Field}
use Rattle.catalogue_rules.specs.Turns.{address_of}
use Rattle.catalogue_rules.specs.Reading.{catalogue, parsed, read, has_room, addresses_of, is_among, any_twice, file_of}
use Rattle.catalogue_rules.specs.Cards.{versions_from, versions_at, cards_of}
use Rattle.catalogue_rules.proofs.Bools.{or_second}
use Rattle.catalogue_rules.proofs.Came.{roomy-only}
use Rattle.catalogue_rules.proofs.Changes.{or_else_lem, or_on}
use Rattle.catalogue_rules.specs.RoundTrip.{Bytes}
use Rattle.catalogue_rules.specs.Archive.{moved_in, moved_out, addresses_in}
use Rattle.catalogue_rules.specs.Edit.{Change, bytes, no, or_else, on_catalogue, whose, no_version, no_card, no_place, added_to, added, dropped_from, dropped, images_in, imported, exported}
use Rattle.catalogue_area.specs.Area.{unknown_bytes, enough, AllEight, Full, AreaSuffices}
use Rattle.catalogue_area.proofs.Sizes.{size}
use Rattle.catalogue_area.proofs.Refusals.{is_area, not_area, or_else_not, images_not, read-not, parsed-not, added_to-not, dropped_from-not}

-- ---- no refusal 12

-- Where the test of the area passes, only what is behind it answers.
behind : (b : Bool) (rest : Change) → b ≡ false → is_area rest ≡ false → is_area (or_else b ArgumentOutside rest) ≡ false
behind b rest e r = ap is_area (or_on b ArgumentOutside rest e) ∙ r

module _ (area : ℕ) (file : List ℕ) (fs : List Field) (b : Bytes file) (e : read file ≡ catalogue fs) (k : enough + unknown_bytes fs ≤ area) where
  room_for_more : ltb area (length file + 145) ≡ false
  room_for_more = let s : length file ≤ _ = size file fs b e in le-ltb area (length file + 145) (omega arith)

  room_for_file : ltb area (length file) ≡ false
  room_for_file = let s : length file ≤ _ = size file fs b e in le-ltb area (length file) (omega arith)

  was_parsed_lem : parsed file ≡ catalogue fs
  unfolding read
  was_parsed_lem = roomy-only (parsed file) fs e

  enough_to_add : (image : List ℕ) → is_area (added area file image) ≡ false
  unfolding added
  enough_to_add image =
      behind (ltb area (length file + 145)) _ room_for_more
      (or_else_not (not (eqb (length image) 128)) LengthOutside _ refl (parsed-not file (added_to image) (added_to-not image)))

  enough_to_drop : (a : ℕ) → is_area (dropped area file a) ≡ false
  unfolding dropped
  enough_to_drop a = behind (ltb area (length file)) _ room_for_file (parsed-not file (dropped_from a) (dropped_from-not a))

enough_to_import : (area : ℕ) (row : List ℕ) → 145 * (length row / 128) + 5 ≤ area → is_area (imported area row) ≡ false
unfolding imported
enough_to_import area row k =
    behind (ltb area (145 * (length row / 128) + 5)) _ (le-ltb area (145 * (length row / 128) + 5) k)
    (or_else_not (not (eqb (length row % 128) 0)) LengthOutside _ refl
    (or_else_not (ltb 64 (length row / 128)) NoPlace _ refl
    (or_else_not (any_twice (addresses_in (images_in row))) ListedTwice _ refl (images_not (images_in row) (file_of (moved_in (images_in row)))))))

enough_to_export : (area : ℕ) (file : List ℕ) → 8192 ≤ area → is_area (exported area file) ≡ false
unfolding exported
enough_to_export area file k = behind (ltb area 8192) _ (le-ltb area 8192 k) (read-not file (λ fs. bytes (moved_out fs)) (λ fs. refl))

-- ---- a full catalogue

-- The versions of a card that is listed are those of one of the cards.
module _ (a : ℕ) (f : Field) (fs : List Field) (ih : is_among a (addresses_of fs) ≡ true → AllEight (cards_of fs) → 8 ≤ length (versions_at a fs)) where
  eight-if : (b c : Bool) → is_among a (cond b (address_of f.value ∷ addresses_of fs) (addresses_of fs)) ≡ true → eqb (address_of f.value) a ≡ c
      → AllEight (cond b (record { address = address_of f.value; versions = versions_from 0 fs } ∷ cards_of fs) (cards_of fs))
      → 8 ≤ length (cond b (cond c (versions_from 0 fs) (versions_at a fs)) (versions_at a fs))
  unfolding AllEight
  eight-if true true m t h = omega (arith, h.0)
  eight-if true false m t h = ih (ap (λ (c : Bool). c || is_among a (addresses_of fs)) (sym t) ∙ m) h.1
  eight-if false c m t h = ih m h

eight : (a : ℕ) (fs : List Field) → is_among a (addresses_of fs) ≡ true → AllEight (cards_of fs) → 8 ≤ length (versions_at a fs)
unfolding addresses_of cards_of versions_at
eight a [] m h = never m
eight a (f ∷ fs) m h = eight-if a f fs (eight a fs) (eqb f.tag 1) (eqb (address_of f.value) a) m refl h

no_more : (a : ℕ) (fs : List Field) (listed : Bool) → is_among a (addresses_of fs) ≡ listed → Full fs → cond listed (no_version a fs) (no_card fs) ≡ true
no_more a fs true m full = rw (le-leb 8 (length (versions_at a fs)) (eight a fs m full.versions))
no_more a fs false m full = rw (le-leb 64 (length (addresses_of fs)) (omega (arith, full.cards)))

full_adds_nothing : (image : List ℕ) (fs : List Field) → Full fs → added_to image fs ≡ no NoPlace
unfolding added_to
full_adds_nothing image fs full =
    or_else_lem (not (has_room fs) || no_place (whose image) fs) NoPlace _
    (or_second (not (has_room fs)) _ (no_more (whose image) fs (is_among (whose image) (addresses_of fs)) refl full))

full_refuses : (area : ℕ) (file image : List ℕ) (fs : List Field) → Bytes file → read file ≡ catalogue fs → Full fs → enough + unknown_bytes fs ≤ area
    → length image ≡ 128 → added area file image ≡ no NoPlace
unfolding added
full_refuses area file image fs b e full k l =
    or_on (ltb area (length file + 145)) ArgumentOutside _ (room_for_more area file fs b e k)
    ∙ or_on (not (eqb (length image) 128)) LengthOutside _ (ap not (eq-eqb (length image) 128 l))
    ∙ ap (λ r. on_catalogue r (added_to image)) (was_parsed_lem area file fs b e k)
    ∙ full_adds_nothing image fs full

-- ---- the law

pub area_suffices_lem : AreaSuffices
area_suffices_lem =
    record {
      size = size;
      addition = λ area file image fs b e k. not_area (added area file image) (enough_to_add area file fs b e k image);
      drop = λ area file a fs b e k. not_area (dropped area file a) (enough_to_drop area file fs b e k a);
      archive = λ area row few k. not_area (imported area row) (enough_to_import area row (omega arith));
      row = λ area file k. not_area (exported area file) (enough_to_export area file (omega arith));
      full = full_refuses;
    }
