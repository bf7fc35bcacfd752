-- From file to file: an accepted file holds a well-formed catalogue, and each call writes the changed one, only behind its tests.
-- Assumes nothing.
use Prim.Native.Nat.{ℕ, zero, suc, ◌+◌, ◌*◌, ◌/◌, ◌%◌, ◌≤◌}
use mathlib.Core.Path.{◌≡◌, refl, sym, ap, ◌∙◌}
use mathlib.Core.Bool.{Bool, true, false, not, true≢false}
use mathlib.Core.List.{List}
use native.Mathlib.Omega.{arith}
use borrow.Author.Tests.{eqb-true, eq-eqb, ltb-false, not-false}
use lib.ListN.{length, take, drop, length-take, length-drop}
use lib.Dec.{eqb, ltb}
use Rattle.std.specs.Prelude.{Ok}
use Rattle.refusal.specs.declared.Refusal.TheVariants.{LengthOutside, ArgumentOutside, MakerWrong, ChecksumWrong, SecondaryWrong, NoPlace, ListedTwice}
use Rattle.image_rules.specs.declared.Node.{Node}
use Rattle.image_rules.specs.Image.{or_refused, word_at, checksum_of, secondary_of, check_of}
use Rattle.catalogue_rules.specs.Field.{Field}
use Rattle.catalogue_rules.specs.Reading.{Reading, catalogue, refused, parsed, any_twice, read, file_of}
use Rattle.catalogue_rules.proofs.Checked.{is_read}
use Rattle.catalogue_rules.specs.RoundTrip.{Bytes}
use Rattle.catalogue_rules.proofs.Fit.{accepted_is_well_formed_lem}
use Rattle.catalogue_rules.specs.Archive.{moved_in, is_sound, AllSound, addresses_in}
use Rattle.catalogue_rules.proofs.OutAfter.{out_after_in_lem}
use Rattle.catalogue_rules.specs.Edit.{Change, bytes, on_catalogue, is_for, any_for, with_added, added_to, added, without_version, dropped_from, dropped, images_within, images_in, all_sound, imported}
use Rattle.catalogue_rules.proofs.Bools.{or_left, or_right}
use Rattle.catalogue_kept.specs.Kept.{Becomes, WrittenIsTheChanged}
use Rattle.catalogue_kept.proofs.Accepted.{not-refused, same_bytes, WasAdded, was_added, added-again, WasDropped, was_dropped, dropped-again}

-- ---- a file that was read

-- Bytes are written only where fields were read.
record Parsed (r : Reading) (f : List Field → Change) (after : List ℕ) : Type 0 where
  pub those : List Field
  pub are : r ≡ catalogue those
  pub written : f those ≡ bytes after

was_parsed_lem : (r : Reading) (f : List Field → Change) (after : List ℕ) → on_catalogue r f ≡ bytes after → Parsed r f after
was_parsed_lem (catalogue fs) f after e = record { those = fs; are = refl; written = e }
was_parsed_lem (refused why) f after e = let z : ◌≡◌ {A = ℕ} 0 1 = cc in absurd (omega arith)

add_file : (area : ℕ) (file image after : List ℕ) → Bytes file → added area file image ≡ bytes after → Becomes file after (with_added image)
unfolding added
add_file area file image after b e =
    let x : (not (eqb (length image) 128) ≡ false) × (on_catalogue (parsed file) (added_to image) ≡ bytes after) =
    not-refused _ LengthOutside _ after (not-refused (ltb area (length file + 145)) ArgumentOutside _ after e).1 in
    let p : Parsed (parsed file) (added_to image) after = was_parsed_lem (parsed file) (added_to image) after x.1 in
    let t : WasAdded image p.those after = was_added image p.those after p.written in
    let r : read file ≡ catalogue p.those = is_read file p.those p.are t.room t.apart in
    let long : length image ≡ 128 = eqb-true (length image) 128 (not-false (eqb (length image) 128) x.0) in
    record {
      those = p.those;
      before = r;
      now = added-again image p.those after (accepted_is_well_formed_lem file p.those b r) long p.written;
    }

drop_file : (area : ℕ) (file : List ℕ) (a : ℕ) (after : List ℕ) → Bytes file → dropped area file a ≡ bytes after → Becomes file after (without_version a)
unfolding dropped
drop_file area file a after b e =
    let p : Parsed (parsed file) (dropped_from a) after = was_parsed_lem (parsed file) (dropped_from a) after (not-refused (ltb area (length file)) ArgumentOutside _ after e).1 in
    let t : WasDropped a p.those after = was_dropped a p.those after p.written in
    let r : read file ≡ catalogue p.those = is_read file p.those p.are t.room t.apart in
    record {
      those = p.those;
      before = r;
      now = dropped-again a p.those after (accepted_is_well_formed_lem file p.those b r) p.written;
    }

-- ---- an archive moved in

-- An image of the right length that answers neither 8 nor 9 nor 10 is sound.
sound-if : (long maker check second : Bool) (node : Node) → long ≡ true
    → is_for MakerWrong (or_refused long LengthOutside (or_refused maker MakerWrong (or_refused check ChecksumWrong (or_refused second SecondaryWrong (Ok node))))) ≡ false
    → is_for ChecksumWrong (or_refused long LengthOutside (or_refused maker MakerWrong (or_refused check ChecksumWrong (or_refused second SecondaryWrong (Ok node))))) ≡ false
    → is_for SecondaryWrong (or_refused long LengthOutside (or_refused maker MakerWrong (or_refused check ChecksumWrong (or_refused second SecondaryWrong (Ok node))))) ≡ false
    → is_sound (or_refused long LengthOutside (or_refused maker MakerWrong (or_refused check ChecksumWrong (or_refused second SecondaryWrong (Ok node))))) ≡ true
sound-if false maker check second node l m c s = l
sound-if true false check second node l m c s = absurd (true≢false m)
sound-if true true false second node l m c s = absurd (true≢false c)
sound-if true true true false node l m c s = absurd (true≢false s)
sound-if true true true true node l m c s = refl

one-sound : (image : List ℕ) → length image ≡ 128 → is_for MakerWrong (check_of image) ≡ false → is_for ChecksumWrong (check_of image) ≡ false → is_for SecondaryWrong (check_of image) ≡ false
    → is_sound (check_of image) ≡ true
unfolding check_of
one-sound image l m c s =
    sound-if (eqb (length image) 128) (eqb (word_at image 0x07) 0x6D50) (eqb (word_at image 0x0F) (checksum_of image)) (eqb (word_at image 0x17) (secondary_of image))
    _ (eq-eqb (length image) 128 l) m c s

sound-within : (n : ℕ) (row : List ℕ) → length row ≡ 128 * n → any_for MakerWrong (images_within n row) ≡ false → any_for ChecksumWrong (images_within n row) ≡ false
    → any_for SecondaryWrong (images_within n row) ≡ false → AllSound (images_within n row)
unfolding images_within any_for AllSound
sound-within zero row l m c s = tt
sound-within (suc n) row l m c s =
    let one : length (take 128 row) ≡ 128 = simp length-take (omega arith) in
    let more : length (drop 128 row) ≡ 128 * n = simp length-drop (omega arith) in (
      one-sound (take 128 row) one (or_left _ _ m) (or_left _ _ c) (or_left _ _ s),
      sound-within n (drop 128 row) more (or_right (is_for MakerWrong (check_of (take 128 row))) _ m) (or_right (is_for ChecksumWrong (check_of (take 128 row))) _ c) (or_right (is_for SecondaryWrong (check_of (take 128 row))) _ s),
    )

so_many : (n : ℕ) (row : List ℕ) → length (images_within n row) ≡ n
unfolding images_within
so_many zero row = refl
so_many (suc n) row = ap suc (so_many n (drop 128 row))

-- What was written, if all images were sound.
all_sound_lem : (row x after : List ℕ) → length row % 128 ≡ 0 → all_sound (images_in row) (bytes x) ≡ bytes after → AllSound (images_in row) × (x ≡ after)
unfolding all_sound images_in
all_sound_lem row x after l e =
    let m : (any_for MakerWrong (images_in row) ≡ false) × (_ ≡ bytes after) = not-refused (any_for MakerWrong (images_in row)) MakerWrong _ after e in
    let c : (any_for ChecksumWrong (images_in row) ≡ false) × (_ ≡ bytes after) = not-refused (any_for ChecksumWrong (images_in row)) ChecksumWrong _ after m.1 in
    let s : (any_for SecondaryWrong (images_in row) ≡ false) × (_ ≡ bytes after) = not-refused (any_for SecondaryWrong (images_in row)) SecondaryWrong _ after c.1 in
    let n : length row ≡ 128 * (length row / 128) = omega arith in
    (sound-within (length row / 128) row n m.0 c.0 s.0, same_bytes x after s.1)

archive_file : (area : ℕ) (row after : List ℕ) → imported area row ≡ bytes after → read after ≡ catalogue (moved_in (images_in row))
unfolding imported images_in
archive_file area row after e =
    let l : (not (eqb (length row % 128) 0) ≡ false) × (_ ≡ bytes after) =
    not-refused (not (eqb (length row % 128) 0)) LengthOutside _ after (not-refused (ltb area (145 * (length row / 128) + 5)) ArgumentOutside _ after e).1 in
    let x : (ltb 64 (length row / 128) ≡ false) × (_ ≡ bytes after) = not-refused (ltb 64 (length row / 128)) NoPlace _ after l.1 in
    let y : (any_twice (addresses_in (images_in row)) ≡ false) × (all_sound (images_in row) (bytes (file_of (moved_in (images_in row)))) ≡ bytes after) =
    not-refused _ ListedTwice _ after x.1 in
    let whole : length row % 128 ≡ 0 = eqb-true (length row % 128) 0 (not-false (eqb (length row % 128) 0) l.0) in
    let s : AllSound (images_in row) × (file_of (moved_in (images_in row)) ≡ after) = all_sound_lem row (file_of (moved_in (images_in row))) after whole y.1 in
    let few : length (images_in row) ≤ 64 = omega (arith, so_many (length row / 128) row, ltb-false 64 (length row / 128) x.0) in
    ap read (sym s.1) ∙ (out_after_in_lem (images_in row) few s.0 y.0).accepted

pub written_is_the_changed_lem : WrittenIsTheChanged
written_is_the_changed_lem =
    record {
      addition = add_file;
      drop = drop_file;
      archive = archive_file;
    }
