-- What a change writes is read as the changed catalogue: that catalogue is well-formed again, and so its file is read as it.
-- Assumes nothing.
use Prim.Native.Nat.{ℕ, ◌+◌, ◌≤◌, ◌<◌}
use mathlib.Core.Path.{◌≡◌, refl, sym, ap, subst, ◌∙◌}
use mathlib.Core.Bool.{Bool, true, false, cond, ◌||◌, not}
use mathlib.Core.List.{List, [], ◌∷◌, ◌++◌}
use native.Mathlib.Omega.{arith}
use borrow.Author.Tests.{leb-false, ltb-false, not-false}
use lib.ListN.{length, length-append}
use lib.Dec.{leb, ltb}
use Rattle.refusal.specs.declared.Refusal.{Refusal}
use Rattle.std.specs.Prelude.{Result, Ok, Err}
use Rattle.refusal.specs.declared.Refusal.TheVariants.{NoPlace, NoSuchCard, ListedTwice}
use Rattle.image_rules.specs.declared.Node.{Node}
use Rattle.image_rules.specs.Image.{check_of}
use Rattle.catalogue_rules.specs.Field.{Field, field}
use Rattle.catalogue_rules.specs.declared.Turn.TheVariants.{Begun}
use Rattle.catalogue_rules.specs.Turns.{address_of}
use Rattle.catalogue_rules.specs.Reading.{catalogue, has_room, addresses_of, is_among, any_twice, read, file_of}
use Rattle.catalogue_rules.specs.Cards.{versions_at}
use Rattle.catalogue_rules.specs.RoundTrip.{WellFormed}
use Rattle.catalogue_rules.proofs.Round.{written_is_read_lem}
use Rattle.catalogue_rules.specs.Archive.{address_in, is_sound}
use Rattle.catalogue_rules.specs.Edit.{Change, bytes, or_else, if_sound, whose, no_version, no_card, no_place, version_fields, with_version, with_added, latest_number, added_to, without_version, dropped_from}
use Rattle.catalogue_rules.proofs.Bools.{or_left, or_right}
use Rattle.catalogue_kept.specs.Kept.{HasRoom, ChangesAreAccepted}
use Rattle.catalogue_kept.proofs.Told.{Told, told, in_turn_lem, sizes}
use Rattle.catalogue_kept.proofs.Parts.{part_apart, part_length, apart_more, addresses_append}
use Rattle.catalogue_kept.proofs.Versions.{version-told, card-told, version_addresses, version-length}
use Rattle.catalogue_kept.proofs.Drops.{dropped-told, dropped_addresses, dropped-length}

read_again : (fs : List Field) (file : List ℕ) → WellFormed fs → file_of fs ≡ file → read file ≡ catalogue fs
read_again fs file w e = ap read (sym e) ∙ written_is_read_lem fs w

-- ---- what is written is well-formed

version-kept : (a n : ℕ) (image : List ℕ) (fs : List Field) → WellFormed fs → length image ≡ 128 → HasRoom a n fs → WellFormed (with_version a (version_fields n image) fs)
version-kept a n image fs w l room =
    let s : n < 65536 = omega arith in
    let t : Told Begun (with_version a (version_fields n image) fs) = version-told n image s l a (told fs Begun w.turns w.sizes) (omega arith) (omega arith) in
    let e : addresses_of (with_version a (version_fields n image) fs) ≡ addresses_of fs = version_addresses n image a fs in
    record {
      turns = in_turn_lem t;
      sizes = sizes t;
      counted = omega (arith, version-length n image a fs);
      cards = subst (λ (x : List ℕ). length x ≤ 64) (sym e) w.cards;
      apart = ap any_twice e ∙ w.apart;
    }

card-kept : (image : List ℕ) (fs : List Field) → WellFormed fs → length image ≡ 128 → is_among (address_of (address_in image)) (addresses_of fs) ≡ false
    → length (addresses_of fs) < 64 → length fs < 65533 → WellFormed (fs ++ (field 1 (address_in image) ∷ version_fields 1 image))
unfolding addresses_of
card-kept image fs w l n k c =
    let more : List Field = field 1 (address_in image) ∷ version_fields 1 image in
    let t : Told Begun (fs ++ more) = card-told 1 image (omega arith) l (address_in image) refl (told fs Begun w.turns w.sizes) in
    let e : addresses_of (fs ++ more) ≡ addresses_of fs ++ (address_of (address_in image) ∷ []) = addresses_append fs more in
    record {
      turns = in_turn_lem t;
      sizes = sizes t;
      counted = omega (arith, length-append fs more);
      cards = omega (arith, ap length e, length-append (addresses_of fs) (address_of (address_in image) ∷ []));
      apart = ap any_twice e ∙ apart_more (address_of (address_in image)) (addresses_of fs) w.apart n;
    }

drop-kept : (a : ℕ) (fs : List Field) → WellFormed fs → WellFormed (without_version a fs)
drop-kept a fs w =
    let t : Told Begun (without_version a fs) = dropped-told a (told fs Begun w.turns w.sizes) in
    record {
      turns = in_turn_lem t;
      sizes = sizes t;
      counted = omega (arith, dropped-length a fs, w.counted);
      cards = omega (arith, part_length (dropped_addresses a fs), w.cards);
      apart = part_apart (dropped_addresses a fs) w.apart;
    }

-- ---- bytes are written only behind the tests

pub not-refused : (b : Bool) (why : Refusal) (c : Change) (file : List ℕ) → or_else b why c ≡ bytes file → (b ≡ false) × (c ≡ bytes file)
not-refused true why c file e = let z : ◌≡◌ {A = ℕ} 0 1 = cc in absurd (omega arith)
not-refused false why c file e = (refl, e)

when_sound : (s : Result Node Refusal) (c : Change) (file : List ℕ) → if_sound s c ≡ bytes file → (is_sound s ≡ true) × (c ≡ bytes file)
when_sound (Ok node) c file e = (refl, e)
when_sound (Err why) c file e = let z : ◌≡◌ {A = ℕ} 0 1 = cc in absurd (omega arith)

pub same_bytes : (x file : List ℕ) → bytes x ≡ bytes file → x ≡ file
same_bytes x file e = cc

-- ---- an addition

module _ (image : List ℕ) (fs : List Field) (w : WellFormed fs) (l : length image ≡ 128) where
  has_room_lem : no_version (whose image) fs ≡ false → HasRoom (whose image) (latest_number (versions_at (whose image) fs) + 1) fs
  has_room_lem e =
      let y : leb 65535 (latest_number (versions_at (whose image) fs)) || ltb 65533 (length fs) ≡ false = or_right (leb 8 (length (versions_at (whose image) fs))) _ e in
      let few : length (versions_at (whose image) fs) < 8 = leb-false 8 (length (versions_at (whose image) fs)) (or_left _ _ e) in
      let low : latest_number (versions_at (whose image) fs) < 65535 = leb-false 65535 (latest_number (versions_at (whose image) fs)) (or_left _ _ y) in
      let room : length fs ≤ 65533 = ltb-false 65533 (length fs) (or_right (leb 65535 (latest_number (versions_at (whose image) fs))) _ y) in
      record { few = few; above = omega arith; small = omega arith; counted = omega arith }

  has-place : is_among (whose image) (addresses_of fs) ≡ false → no_card fs ≡ false → WellFormed (fs ++ (field 1 (address_in image) ∷ version_fields 1 image))
  has-place n e =
      let few : length (addresses_of fs) < 64 = leb-false 64 (length (addresses_of fs)) (or_left _ _ e) in
      let room : length fs ≤ 65532 = ltb-false 65532 (length fs) (or_right (leb 64 (length (addresses_of fs))) _ e) in
      card-kept image fs w l n few (omega arith)

  either_way : (b : Bool) → is_among (whose image) (addresses_of fs) ≡ b → cond b (no_version (whose image) fs) (no_card fs) ≡ false
      → WellFormed
      (cond b (with_version (whose image) (version_fields (latest_number (versions_at (whose image) fs) + 1) image) fs)
      (fs ++ (field 1 (address_in image) ∷ version_fields 1 image)))
  either_way true t e = version-kept (whose image) (latest_number (versions_at (whose image) fs) + 1) image fs w l (has_room_lem e)
  either_way false t e = has-place t e

  added-kept : no_place (whose image) fs ≡ false → WellFormed (with_added image fs)
  unfolding with_added
  added-kept e = either_way (is_among (whose image) (addresses_of fs)) refl e

-- An addition was written: its tests, and what was written.
pub record WasAdded (image : List ℕ) (fs : List Field) (file : List ℕ) : Type 0 where
  pub room : has_room fs ≡ true
  pub apart : any_twice (addresses_of fs) ≡ false
  pub place : no_place (whose image) fs ≡ false
  pub those : file_of (with_added image fs) ≡ file

pub was_added : (image : List ℕ) (fs : List Field) (file : List ℕ) → added_to image fs ≡ bytes file → WasAdded image fs file
unfolding added_to
was_added image fs file e =
    let x : (not (has_room fs) || no_place (whose image) fs ≡ false) × (_ ≡ bytes file) = not-refused (not (has_room fs) || no_place (whose image) fs) NoPlace _ file e in
    let y : (any_twice (addresses_of fs) ≡ false) × (_ ≡ bytes file) = not-refused (any_twice (addresses_of fs)) ListedTwice _ file x.1 in
    record {
      room = not-false (has_room fs) (or_left (not (has_room fs)) (no_place (whose image) fs) x.0);
      apart = y.0;
      place = or_right (not (has_room fs)) (no_place (whose image) fs) x.0;
      those = same_bytes _ file (when_sound (check_of image) _ file y.1).1;
    }

pub added-again : (image : List ℕ) (fs : List Field) (file : List ℕ) → WellFormed fs → length image ≡ 128 → added_to image fs ≡ bytes file → read file ≡ catalogue (with_added image fs)
added-again image fs file w l e =
    let a : WasAdded image fs file = was_added image fs file e in
    read_again (with_added image fs) file (added-kept image fs w l a.place) a.those

-- ---- a drop

pub record WasDropped (a : ℕ) (fs : List Field) (file : List ℕ) : Type 0 where
  pub listed : is_among a (addresses_of fs) ≡ true
  pub room : has_room fs ≡ true
  pub apart : any_twice (addresses_of fs) ≡ false
  pub those : file_of (without_version a fs) ≡ file

pub was_dropped : (a : ℕ) (fs : List Field) (file : List ℕ) → dropped_from a fs ≡ bytes file → WasDropped a fs file
unfolding dropped_from
was_dropped a fs file e =
    let x : (not (is_among a (addresses_of fs)) ≡ false) × (_ ≡ bytes file) = not-refused (not (is_among a (addresses_of fs))) NoSuchCard _ file e in
    let y : (not (has_room fs) ≡ false) × (_ ≡ bytes file) = not-refused (not (has_room fs)) NoPlace _ file x.1 in
    let z : (any_twice (addresses_of fs) ≡ false) × (_ ≡ bytes file) = not-refused (any_twice (addresses_of fs)) ListedTwice _ file y.1 in
    record {
      listed = not-false (is_among a (addresses_of fs)) x.0;
      room = not-false (has_room fs) y.0;
      apart = z.0;
      those = same_bytes _ file z.1;
    }

pub dropped-again : (a : ℕ) (fs : List Field) (file : List ℕ) → WellFormed fs → dropped_from a fs ≡ bytes file → read file ≡ catalogue (without_version a fs)
dropped-again a fs file w e = read_again (without_version a fs) file (drop-kept a fs w) (was_dropped a fs file e).those

pub changes_are_accepted_lem : ChangesAreAccepted
changes_are_accepted_lem =
    record {
      version = version-kept;
      addition = added-again;
      drop = dropped-again;
    }
