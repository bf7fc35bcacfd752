-- Behind the test of the area nothing answers 12: neither a reading, nor the check of an image, nor a test of a change.
-- Assumes nothing.
use Prim.Native.Nat.{ℕ, ◌+◌}
use mathlib.Core.Path.{◌≡◌, refl, ap, sym, ◌∙◌}
use mathlib.Core.Bool.{Bool, true, false, ◌||◌, not}
use mathlib.Core.List.{List, [], ◌∷◌}
use lib.ListN.{length}
use lib.Dec.{eqb}
use Rattle.bits.proofs.Tests.{never, of_cond}
use Rattle.refusal.specs.declared.Refusal.{Refusal}
use Rattle.std.specs.Prelude.{Result}
use Rattle.refusal.specs.declared.Refusal.TheVariants.{ArgumentOutside, LengthOutside, MakerWrong, ChecksumWrong, SecondaryWrong, NoSuchCard, NoPlace, ListedTwice}
use Rattle.refusal.specs.Number.{number_of}
use Rattle.image_rules.specs.declared.Node.{Node}
use Rattle.image_rules.specs.Image.{word_at, checksum_of, secondary_of, or_refused, check_of}
use Rattle.catalogue_rules.specs.Field.{Field, fields_of, left_of}
use Rattle.catalogue_rules.specs.declared.Turn.{Turn}
use Rattle.catalogue_rules.specs.declared.Turn.TheVariants.{Begun}
use Rattle.catalogue_rules.specs.Turns.{after, is_damaged}
use Rattle.catalogue_rules.specs.Reading.{Reading, catalogue, refused, with, is_last, ends, reading, parsed, roomy, read, has_room, addresses_of, is_among, any_twice, file_of}
use Rattle.catalogue_rules.specs.Edit.{Change, bytes, no, or_else, on_catalogue, if_sound, whose, no_place, with_added, added_to, dropped_from, any_for, all_sound}

-- The change is a refusal 12.
abbrev pub is_area : Change → Bool
is_area (bytes file) = false
is_area (no why) = eqb (number_of why) 12

pub not_area : (change : Change) → is_area change ≡ false → change ≡ no ArgumentOutside → ⊥
not_area change n e = never (sym n ∙ ap is_area e)

pub or_else_not : (b : Bool) (why : Refusal) (rest : Change) → eqb (number_of why) 12 ≡ false → is_area rest ≡ false → is_area (or_else b why rest) ≡ false
or_else_not true why rest w r = w
or_else_not false why rest w r = r

-- ---- an image

check-not : (b : Bool) (why : Refusal) (checked : Result Node Refusal) (change : Change) → eqb (number_of why) 12 ≡ false → is_area (if_sound checked change) ≡ false
    → is_area (if_sound (or_refused b why checked) change) ≡ false
check-not true why checked change w r = r
check-not false why checked change w r = w

pub image-not : (image file : List ℕ) → is_area (if_sound (check_of image) (bytes file)) ≡ false
unfolding check_of
image-not image file =
    check-not (eqb (length image) 128) LengthOutside _ (bytes file) refl
    (check-not (eqb (word_at image 0x07) 0x6D50) MakerWrong _ (bytes file) refl
    (check-not (eqb (word_at image 0x0F) (checksum_of image)) ChecksumWrong _ (bytes file) refl
    (check-not (eqb (word_at image 0x17) (secondary_of image)) SecondaryWrong _ (bytes file) refl refl)))

pub images_not : (images : List (List ℕ)) (file : List ℕ) → is_area (all_sound images (bytes file)) ≡ false
unfolding all_sound
images_not images file =
    or_else_not (any_for MakerWrong images) MakerWrong _ refl
    (or_else_not (any_for ChecksumWrong images) ChecksumWrong _ refl
    (or_else_not (any_for SecondaryWrong images) SecondaryWrong _ refl refl))

-- ---- a reading

abbrev refuses_area : Reading → Bool
refuses_area (catalogue fs) = false
refuses_area (refused why) = eqb (number_of why) 12

with-not : (f : Field) (r : Reading) → refuses_area r ≡ false → refuses_area (with f r) ≡ false
with-not f (catalogue fs) e = refl
with-not f (refused why) e = e

reading-not : (gs : List Field) (turn : Turn) (n : ℕ) (left : List ℕ) → refuses_area (reading turn n gs left) ≡ false
unfolding reading
reading-not [] turn n left = refl
reading-not (f ∷ gs) turn n left =
    of_cond (λ r. refuses_area r ≡ false) (eqb f.tag 4)
    (of_cond (λ r. refuses_area r ≡ false) (ends turn n f (is_last gs left)) refl refl)
    (of_cond (λ r. refuses_area r ≡ false) (is_damaged (after turn f)) refl (with-not f (reading (after turn f) (n + 1) gs left) (reading-not gs (after turn f) (n + 1) left)))

roomy-not : (r : Reading) → refuses_area r ≡ false → refuses_area (roomy r) ≡ false
roomy-not (catalogue fs) e =
    of_cond (λ r. refuses_area r ≡ false) (has_room fs) (of_cond (λ r. refuses_area r ≡ false) (any_twice (addresses_of fs)) refl refl) refl
roomy-not (refused why) e = e

on-not : (r : Reading) (f : List Field → Change) → refuses_area r ≡ false → ((fs : List Field) → is_area (f fs) ≡ false) → is_area (on_catalogue r f) ≡ false
on-not (catalogue fs) f e k = k fs
on-not (refused why) f e k = e

pub read-not : (file : List ℕ) (f : List Field → Change) → ((fs : List Field) → is_area (f fs) ≡ false) → is_area (on_catalogue (read file) f) ≡ false
unfolding read
read-not file f k = on-not (roomy (parsed file)) f (roomy-not (parsed file) (reading-not (fields_of file) Begun 0 (left_of file))) k

pub parsed-not : (file : List ℕ) (f : List Field → Change) → ((fs : List Field) → is_area (f fs) ≡ false) → is_area (on_catalogue (parsed file) f) ≡ false
parsed-not file f k = on-not (parsed file) f (reading-not (fields_of file) Begun 0 (left_of file)) k

-- ---- a change

pub added_to-not : (image : List ℕ) (fs : List Field) → is_area (added_to image fs) ≡ false
unfolding added_to
added_to-not image fs =
    or_else_not (not (has_room fs) || no_place (whose image) fs) NoPlace _ refl
    (or_else_not (any_twice (addresses_of fs)) ListedTwice _ refl (image-not image (file_of (with_added image fs))))

pub dropped_from-not : (a : ℕ) (fs : List Field) → is_area (dropped_from a fs) ≡ false
unfolding dropped_from
dropped_from-not a fs =
    or_else_not (not (is_among a (addresses_of fs))) NoSuchCard _ refl
    (or_else_not (not (has_room fs)) NoPlace _ refl
    (or_else_not (any_twice (addresses_of fs)) ListedTwice _ refl refl))
