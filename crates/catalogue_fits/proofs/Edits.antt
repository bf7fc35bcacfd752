-- Each change answers the first of its tests that holds.
-- Assumes nothing.
use Prim.Native.Nat.{ℕ, ◌+◌, ◌*◌, ◌/◌, ◌%◌}
use mathlib.Core.Path.{◌≡◌, refl}
use mathlib.Core.Bool.{Bool, true, false, cond, ◌||◌, not}
use mathlib.Core.List.{List}
use borrow.Author.Tests.{not-false}
use lib.ListN.{length}
use lib.Dec.{eqb, ltb}
use Rattle.std.specs.Prelude.{Result, Ok, Err}
use Rattle.refusal.specs.declared.Refusal.{Refusal}
use Rattle.refusal.specs.declared.Refusal.TheVariants.{ArgumentOutside, LengthOutside, MakerWrong, ChecksumWrong, SecondaryWrong, NoSuchCard, NoPlace, ListedTwice}
use Rattle.image_rules.specs.declared.Node.{Node}
use Rattle.image_rules.specs.Image.{word_at, checksum_of, secondary_of, or_refused, check_of}
use Rattle.catalogue_rules.specs.Reading.{Reading, parsed, read, has_room, addresses_of, is_among, any_twice, file_of}
use Rattle.catalogue_rules.specs.Archive.{addresses_in, moved_out}
use Rattle.catalogue_rules.specs.Edit.{Change, bytes, or_else, on_catalogue, if_sound, whose, no_place, is_for, any_for, images_in, with_added, added_to, added, dropped_from, dropped, all_sound, imported, exported}
use Rattle.catalogue_rules.specs.Put.{answer_of}
use Rattle.catalogue_fits.specs.Tests.{Outcome, fine, because, first_of, add_tests, drop_tests, import_tests, export_tests}
use Rattle.catalogue_fits.specs.Fits.{outcome_of}
use Rattle.catalogue_fits.proofs.Readings.{InTurn, whole, damaged, early, in_turn_lem, roomy_faults}

abbrev outcome : Change → Outcome
outcome change = outcome_of (answer_of change)

-- A test, and what is behind it where it does not hold.
or_else_lem : (b : Bool) (why : Refusal) (rest : Change) (o : Outcome) → (b ≡ false → outcome rest ≡ o) → outcome (or_else b why rest) ≡ cond b (because why) o
or_else_lem true why rest o k = refl
or_else_lem false why rest o k = k refl

-- ---- the check of an image of 128 bytes

data Tried : Result Node Refusal → Type 0 where
  sound : (node : Node) → Tried (Ok node)
  maker : Tried (Err MakerWrong)
  checksum : Tried (Err ChecksumWrong)
  secondary : Tried (Err SecondaryWrong)

tried_or : (b : Bool) (why : Refusal) (c : Result Node Refusal) → Tried (Err why) → Tried c → Tried (or_refused b why c)
tried_or true why c w t = t
tried_or false why c w t = w

tried : (image : List ℕ) → not (eqb (length image) 128) ≡ false → Tried (check_of image)
unfolding check_of
tried image e =
    rw (not-false (eqb (length image) 128) e)
    (tried_or (eqb (word_at image 0x07) 0x6D50) MakerWrong _ maker
    (tried_or (eqb (word_at image 0x0F) (checksum_of image)) ChecksumWrong _ checksum
    (tried_or (eqb (word_at image 0x17) (secondary_of image)) SecondaryWrong _ secondary
    (sound _))))

image_outcome : {c : Result Node Refusal} → Tried c → (file : List ℕ)
    → outcome (if_sound c (bytes file))
    ≡ cond (is_for MakerWrong c) (because MakerWrong) (cond (is_for ChecksumWrong c) (because ChecksumWrong) (cond (is_for SecondaryWrong c) (because SecondaryWrong) fine))
image_outcome (sound node) file = refl
image_outcome maker file = refl
image_outcome checksum file = refl
image_outcome secondary file = refl

-- ---- the calls

module _ (area : ℕ) (file image : List ℕ) where
  add_in : {r : Reading} → InTurn r → parsed file ≡ r → outcome (added area file image) ≡ first_of (add_tests area file image)
  unfolding added added_to
  add_in (whole fs) q =
      rw q
      (or_else_lem (ltb area (length file + 145)) ArgumentOutside _ _
      (λ x. or_else_lem (not (eqb (length image) 128)) LengthOutside _ _
      (λ is. or_else_lem (not (has_room fs) || no_place (whose image) fs) NoPlace _ _
      (λ y. or_else_lem (any_twice (addresses_of fs)) ListedTwice _ _
      (λ z. image_outcome (tried image is) (file_of (with_added image fs)))))))
  add_in damaged q = rw q (or_else_lem (ltb area (length file + 145)) ArgumentOutside _ _ (λ x. or_else_lem (not (eqb (length image) 128)) LengthOutside _ _ (λ y. refl)))
  add_in early q = rw q (or_else_lem (ltb area (length file + 145)) ArgumentOutside _ _ (λ x. or_else_lem (not (eqb (length image) 128)) LengthOutside _ _ (λ y. refl)))

  pub add-exactly : outcome (added area file image) ≡ first_of (add_tests area file image)
  add-exactly = add_in (in_turn_lem file) refl

module _ (area : ℕ) (file : List ℕ) (a : ℕ) where
  drop_in : {r : Reading} → InTurn r → parsed file ≡ r → outcome (dropped area file a) ≡ first_of (drop_tests area file a)
  unfolding dropped dropped_from
  drop_in (whole fs) q =
      rw q
      (or_else_lem (ltb area (length file)) ArgumentOutside _ _
      (λ x. or_else_lem (not (is_among a (addresses_of fs))) NoSuchCard _ _
      (λ y. or_else_lem (not (has_room fs)) NoPlace _ _
      (λ z. or_else_lem (any_twice (addresses_of fs)) ListedTwice _ _ (λ w. refl)))))
  drop_in damaged q = rw q (or_else_lem (ltb area (length file)) ArgumentOutside _ _ (λ x. refl))
  drop_in early q = rw q (or_else_lem (ltb area (length file)) ArgumentOutside _ _ (λ x. refl))

  pub drop-exactly : outcome (dropped area file a) ≡ first_of (drop_tests area file a)
  drop-exactly = drop_in (in_turn_lem file) refl

pub import-exactly : (area : ℕ) (row : List ℕ) → outcome (imported area row) ≡ first_of (import_tests area row)
unfolding imported all_sound
import-exactly area row =
    or_else_lem (ltb area (145 * (length row / 128) + 5)) ArgumentOutside _ _
    (λ x. or_else_lem (not (eqb (length row % 128) 0)) LengthOutside _ _
    (λ x. or_else_lem (ltb 64 (length row / 128)) NoPlace _ _
    (λ x. or_else_lem (any_twice (addresses_in (images_in row))) ListedTwice _ _
    (λ x. or_else_lem (any_for MakerWrong (images_in row)) MakerWrong _ _
    (λ x. or_else_lem (any_for ChecksumWrong (images_in row)) ChecksumWrong _ _
    (λ x. or_else_lem (any_for SecondaryWrong (images_in row)) SecondaryWrong _ _ (λ y. refl)))))))

module _ (area : ℕ) (file : List ℕ) where
  export_in : {r : Reading} → InTurn r → parsed file ≡ r → outcome (exported area file) ≡ first_of (export_tests area file)
  unfolding exported read
  export_in (whole fs) q = rw q
      (or_else_lem (ltb area 8192) ArgumentOutside _ _
      (λ x. roomy_faults (λ r. outcome (on_catalogue r (λ gs. bytes (moved_out gs)))) (has_room fs) (any_twice (addresses_of fs)) fs refl refl refl))
  export_in damaged q = rw q (or_else_lem (ltb area 8192) ArgumentOutside _ _ (λ x. refl))
  export_in early q = rw q (or_else_lem (ltb area 8192) ArgumentOutside _ _ (λ x. refl))

  pub export-exactly : outcome (exported area file) ≡ first_of (export_tests area file)
  export-exactly = export_in (in_turn_lem file) refl
