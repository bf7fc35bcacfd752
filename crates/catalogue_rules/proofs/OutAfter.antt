-- Out after in: a card of three fields is in turn, and its one image is the latest.
-- Assumes nothing.
use Prim.Native.Nat.{ℕ, suc, ◌*◌}
use mathlib.Core.Path.{◌≡◌, refl, sym, ap, ap₂, subst, ◌∙◌}
use mathlib.Core.Bool.{Bool, true, false, cond, ◌&&◌, not, false≢true}
use mathlib.Core.List.{List, [], ◌∷◌, ◌++◌}
use native.Mathlib.Omega.{arith}
use borrow.Author.Tests.{eqb-true, eq-eqb}
use lib.ListN.{length}
use lib.Dec.{eqb}
use Rattle.std.specs.Prelude.{Result}
use Rattle.refusal.specs.declared.Refusal.{Refusal}
use Rattle.image_rules.specs.declared.Node.{Node}
use Rattle.refusal.specs.declared.Refusal.TheVariants.{LengthOutside}
use Rattle.image_rules.specs.Image.{or_refused, check_of}
use Rattle.catalogue_rules.specs.Field.{Field, field}
use Rattle.catalogue_rules.specs.declared.Turn.{Turn}
use Rattle.catalogue_rules.specs.declared.Turn.TheVariants.{Begun, Addressed, Imaged, Damaged}
use Rattle.catalogue_rules.specs.Turns.{address_of, after_address, after, may_end, is_damaged}
use Rattle.catalogue_rules.specs.Reading.{addresses_of, any_twice}
use Rattle.catalogue_rules.specs.Cards.{Version, versions_from, cards_of}
use Rattle.catalogue_rules.specs.RoundTrip.{in_turn, Sizes}
use Rattle.catalogue_rules.proofs.Round.{written_is_read_lem}
use Rattle.catalogue_rules.specs.Archive.{row_of, address_in, moved_in, latest_of, images_of, is_sound, AllSound, addresses_in, OutAfterIn}

-- A sound image has 128 bytes.
sound-if : (t : Bool) (rest : Result Node Refusal) → is_sound (or_refused t LengthOutside rest) ≡ true → t ≡ true
sound-if true rest e = refl
sound-if false rest e = absurd (false≢true e)

sound-length : (image : List ℕ) → is_sound (check_of image) ≡ true → length image ≡ 128
unfolding check_of
sound-length image e = eqb-true (length image) 128 (sound-if (eqb (length image) 128) _ e)

-- One card: its three fields, from a turn at which a card may come.
card_in_turn : (turn : Turn) (image : List ℕ) (fs : List Field) → eqb (length image) 128 ≡ true
    → after_address turn ≡ Addressed → in_turn (Imaged 1 1) fs ≡ true
    → in_turn turn (field 1 (address_in image) ∷ field 2 (1 ∷ 0 ∷ []) ∷ field 3 image ∷ fs) ≡ true
unfolding in_turn after
card_in_turn turn image fs e a r =
    subst (λ (t : Turn). not (is_damaged t) && in_turn t (field 2 (1 ∷ 0 ∷ []) ∷ field 3 image ∷ fs) ≡ true) (sym a)
    (ap (λ (b : Bool). not (is_damaged (cond b (Imaged 1 1) Damaged)) && in_turn (cond b (Imaged 1 1) Damaged) fs) e ∙ r)

all_in_turn : (turn : Turn) (images : List (List ℕ)) → AllSound images → may_end turn ≡ true → after_address turn ≡ Addressed → in_turn turn (moved_in images) ≡ true
unfolding AllSound moved_in in_turn
all_in_turn turn [] s m a = m
all_in_turn turn (image ∷ images) s m a =
    card_in_turn turn image (moved_in images) (eq-eqb (length image) 128 (sound-length image s.0)) a (all_in_turn (Imaged 1 1) images s.1 refl refl)

sizes_in : (images : List (List ℕ)) → AllSound images → Sizes (moved_in images)
unfolding AllSound moved_in Sizes
sizes_in [] s = tt
sizes_in (image ∷ images) s = (omega arith, (omega arith, (omega (arith, sound-length image s.0), sizes_in images s.1)))

count_in : (images : List (List ℕ)) → length (moved_in images) ≡ 3 * length images
unfolding moved_in
count_in [] = refl
count_in (image ∷ images) = let ih : length (moved_in images) ≡ 3 * length images = count_in images in omega arith

addresses_in_lem : (images : List (List ℕ)) → addresses_of (moved_in images) ≡ addresses_in images
unfolding moved_in addresses_of addresses_in
addresses_in_lem [] = refl
addresses_in_lem (image ∷ images) = ap (λ (l : List ℕ). address_of (address_in image) ∷ l) (addresses_in_lem images)

length_in_lem : (images : List (List ℕ)) → length (addresses_in images) ≡ length images
unfolding addresses_in
length_in_lem [] = refl
length_in_lem (image ∷ images) = ap suc (length_in_lem images)

no_more_versions : (n : ℕ) (images : List (List ℕ)) → versions_from n (moved_in images) ≡ []
unfolding moved_in versions_from
no_more_versions n [] = refl
no_more_versions n (image ∷ images) = refl

images_back : (images : List (List ℕ)) → row_of (images_of (cards_of (moved_in images))) ≡ row_of images
unfolding moved_in cards_of versions_from images_of latest_of row_of
images_back [] = refl
images_back (image ∷ images) =
    ap₂ (λ (x y : List ℕ). x ++ y)
    (ap (λ (vs : List Version). latest_of (record { number = 1; image = image } ∷ vs)) (no_more_versions 1 images))
    (images_back images)

pub out_after_in_lem : OutAfterIn
out_after_in_lem images few sound apart =
    let a : addresses_of (moved_in images) ≡ addresses_in images = addresses_in_lem images in
    let l : length (addresses_of (moved_in images)) ≡ length images = ap length a ∙ length_in_lem images in
    let n : length (moved_in images) ≡ 3 * length images = count_in images in
    record {
      accepted = written_is_read_lem (moved_in images) (record {
        turns = all_in_turn Begun images sound refl refl;
        sizes = sizes_in images sound;
        counted = omega arith;
        cards = omega arith;
        apart = ap any_twice a ∙ apart;
      });
      same = images_back images;
    }
