-- The latest images of the cards, put one behind the other: what the fields left still add, at the place where it goes, makes the whole archive.
-- Assumes nothing.
use Prim.Native.Nat.{ℕ, ◌+◌, ◌*◌, ◌≤◌}
use mathlib.Core.Path.{◌≡◌, refl, sym, ap, ap₂, subst, ◌∙◌}
use mathlib.Core.Bool.{Bool, true, false, cond}
use mathlib.Core.List.{List, [], ◌∷◌, ◌++◌}
use native.Mathlib.Omega.{arith}
use borrow.Author.Tests.{eqb-true, eq-eqb, ne_eqb}
use lib.ListN.{length, take, drop, length-append, take-append-drop}
use lib.Dec.{eqb}
use Rattle.refusal.specs.declared.Refusal.{Refusal}
use Rattle.refusal.specs.declared.Refusal.TheVariants.{NoSuchCard}
use Rattle.catalogue_rules.specs.Field.{Field, field, number_at, fields_of}
use Rattle.catalogue_rules.specs.Turns.{address_of}
use Rattle.catalogue_rules.specs.Reading.{addresses_of}
use Rattle.catalogue_rules.specs.Cards.{Version, Card, versions_from, cards_of}
use Rattle.catalogue_rules.specs.Lookup.{Shown, image, none, bytes_in}
use Rattle.catalogue_rules.specs.Places.{last_of}
use Rattle.catalogue_rules.specs.Archive.{row_of, latest_of, images_of, moved_out}
use Rattle.catalogue_rules.specs.Put.{put_at}
use Rattle.catalogue_rules.proofs.Bools.{yes_if, no-if}
use Rattle.catalogue_rules.proofs.Chain.{length-put, put_on}
use Rattle.catalogue_row.specs.Row.{Images, of_field}

-- ---- a card's latest image

last-latest : (v : Version) (vs : List Version) (s : Shown) → last_of s (v ∷ vs) ≡ image (latest_of (v ∷ vs))
unfolding last_of latest_of
last-latest v [] s = refl
last-latest v (w ∷ vs) s = last-latest w vs (image v.image)

latest-bytes : (vs : List Version) (why : Refusal) → bytes_in (last_of (none why) vs) ≡ latest_of vs
unfolding last_of latest_of
latest-bytes [] why = refl
latest-bytes (v ∷ vs) why = ap bytes_in (last-latest v vs (none why))

-- It has at most 128 bytes.
unfoldable Short : List Version → Type 0
Short [] = Unit
Short (v ∷ vs) = (length v.image ≤ 128) × Short vs

short-if : (a b c : Bool) (n : ℕ) (v : List ℕ) (x y : List Version) → (c ≡ true → length v ≤ 128) → Short x → Short y
    → Short (cond a [] (cond b x (cond c (record { number = n; image = v } ∷ y) y)))
unfolding Short
short-if true b c n v x y h p q = tt
short-if false true c n v x y h p q = p
short-if false false true n v x y h p q = (h refl, q)
short-if false false false n v x y h p q = q

versions-short : (fs : List Field) (n : ℕ) → Images fs → Short (versions_from n fs)
unfolding Images versions_from Short
versions-short [] n s = tt
versions-short (f ∷ fs) n s =
    short-if (eqb f.tag 1) (eqb f.tag 2) (eqb f.tag 3) n f.value (versions_from (number_at f.value 0) fs) (versions_from n fs)
    (λ e. omega (arith, s.0 (eqb-true f.tag 3 e))) (versions-short fs (number_at f.value 0) s.1) (versions-short fs n s.1)

latest-short : (vs : List Version) → Short vs → length (latest_of vs) ≤ 128
unfolding Short latest_of
latest-short [] s = omega arith
latest-short (v ∷ []) s = s.0
latest-short (v ∷ w ∷ vs) s = latest-short (w ∷ vs) s.1

card-short : (fs : List Field) → Images fs → length (latest_of (versions_from 0 fs)) ≤ 128
card-short fs s = latest-short (versions_from 0 fs) (versions-short fs 0 s)

-- ---- what one field adds

of_card : (tag : ℕ) (fs : List Field) → tag ≡ 1 → of_field tag fs ≡ latest_of (versions_from 0 fs)
unfolding of_field
of_card tag fs e = yes_if (eqb tag 1) _ _ (eq-eqb tag 1 e)

of_other : (tag : ℕ) (fs : List Field) → (tag ≡ 1 → ⊥) → of_field tag fs ≡ []
unfolding of_field
of_other tag fs e = no-if (eqb tag 1) _ _ (ne_eqb tag 1 e)

row-if : (b : Bool) (c : Card) (cards : List Card) → row_of (images_of (cond b (c ∷ cards) cards)) ≡ cond b (latest_of c.versions) [] ++ row_of (images_of cards)
unfolding images_of row_of
row-if true c cards = refl
row-if false c cards = refl

row_step : (f : Field) (fs : List Field) → moved_out (f ∷ fs) ≡ of_field f.tag fs ++ moved_out fs
unfolding cards_of of_field
row_step f fs = row-if (eqb f.tag 1) (record { address = address_of f.value; versions = versions_from 0 fs }) (cards_of fs)

count-if : (b : Bool) (a : ℕ) (those : List ℕ) (x : List ℕ) → length x ≤ 128 → length (cond b x []) + 128 * length those ≤ 128 * length (cond b (a ∷ those) those)
count-if true a those x h = omega arith
count-if false a those x h = omega arith

count-step : (f : Field) (fs : List Field) → Images fs → length (of_field f.tag fs) + 128 * length (addresses_of fs) ≤ 128 * length (addresses_of (f ∷ fs))
unfolding addresses_of of_field
count-step f fs s = count-if (eqb f.tag 1) (address_of f.value) (addresses_of fs) (latest_of (versions_from 0 fs)) (card-short fs s)

one_more : (b : Bool) (a : ℕ) (those : List ℕ) → b ≡ true → 128 + 128 * length those ≤ 128 * length (cond b (a ∷ those) those)
one_more true a those e = omega arith
one_more false a those e = let z : ◌≡◌ {A = ℕ} 0 1 = cc in absurd (omega arith)

card-step : (f : Field) (fs : List Field) → f.tag ≡ 1 → 128 + 128 * length (addresses_of fs) ≤ 128 * length (addresses_of (f ∷ fs))
unfolding addresses_of
card-step f fs e = one_more (eqb f.tag 1) (address_of f.value) (addresses_of fs) (eq-eqb f.tag 1 e)

nothing-moved : length (moved_out []) ≤ 128 * length (addresses_of [])
unfolding row_of images_of cards_of addresses_of
nothing-moved = omega arith

moved-short : (fs : List Field) → Images fs → length (moved_out fs) ≤ 128 * length (addresses_of fs)
unfolding Images
moved-short [] s = nothing-moved
moved-short (f ∷ fs) s =
    let ih : length (moved_out fs) ≤ 128 * length (addresses_of fs) = moved-short fs s.1 in
    let l : length (moved_out (f ∷ fs)) ≡ length (of_field f.tag fs) + length (moved_out fs) = ap length (row_step f fs) ∙ length-append (of_field f.tag fs) (moved_out fs) in
    omega (arith, count-step f fs s.1)

-- ---- one card put

put-none : (area : List ℕ) (at : ℕ) → area ≡ put_at area at []
put-none area at =
    let e : at ≡ at + 0 = omega arith in
    sym (take-append-drop at area) ∙ ap (λ (n : ℕ). take at area ++ drop n area) e

abbrev Put : ℕ → List ℕ → ℕ → List ℕ → List ℕ → Type 0
Put r after to out those = (r ≡ to + length those) × (after ≡ put_at out to those)

nothing_put : (to : ℕ) (out those : List ℕ) → those ≡ [] → Put to out to out those
nothing_put to out those e =
    let l : length those ≡ 0 = ap length e in
    (omega arith, put-none out to ∙ ap (put_at out to) (sym e))

module _ (tag : ℕ) (fs : List Field) (to : ℕ) (out : List ℕ) where
  pub no-card : (tag ≡ 1 → ⊥) → Put to out to out (of_field tag fs)
  no-card e = nothing_put to out (of_field tag fs) (of_other tag fs e)

  module _ (one : tag ≡ 1) where
    shown : (s : Shown) → s ≡ last_of (none NoSuchCard) (versions_from 0 fs) → of_field tag fs ≡ bytes_in s
    shown s e = of_card tag fs one ∙ sym (latest-bytes (versions_from 0 fs) NoSuchCard) ∙ ap bytes_in (sym e)

    pub no-version : (other : Refusal) → none other ≡ last_of (none NoSuchCard) (versions_from 0 fs) → Put to out to out (of_field tag fs)
    no-version other e = nothing_put to out (of_field tag fs) (shown (none other) e)

    module _ (x y : List ℕ) (is : image x ≡ last_of (none NoSuchCard) (versions_from 0 fs)) (part : y ≡ x) where
      pub image-fits : Images fs → to + 128 ≤ length out → to + length y ≤ length out
      image-fits s h =
          let l : length y ≡ length (latest_of (versions_from 0 fs)) = ap length (part ∙ sym (shown (image x) is) ∙ of_card tag fs one) in
          omega (arith, card-short fs s)

      pub image-put : (r : ℕ) (after : List ℕ) → r ≡ to + length y → after ≡ put_at out to y → Put r after to out (of_field tag fs)
      image-put r after n e =
          let p : y ≡ of_field tag fs = part ∙ sym (shown (image x) is) in
          (n ∙ ap (λ (l : List ℕ). to + length l) p, e ∙ ap (put_at out to) p)

-- ---- all cards put

pub record Going (file area out : List ℕ) (at to : ℕ) : Type 0 where
  pub sizes : Images (fields_of (drop at file))
  pub room : to + 128 * length (addresses_of (fields_of (drop at file))) ≤ length out
  pub size : length out ≡ length area
  pub ends : to + length (moved_out (fields_of (drop at file))) ≡ length (moved_out (fields_of file))
  pub same : put_at out to (moved_out (fields_of (drop at file))) ≡ put_at area 0 (moved_out (fields_of file))

pub going_begins : (file area : List ℕ) → Images (fields_of file) → 128 * length (addresses_of (fields_of file)) ≤ length area → Going file area area 0 0
going_begins file area s h = record { sizes = s; room = omega arith; size = refl; ends = omega arith; same = refl }

module _ {file area out : List ℕ} {at to : ℕ} (g : Going file area out at to) where
  pub going_ends : fields_of (drop at file) ≡ [] → (to ≡ length (moved_out (fields_of file))) × (out ≡ put_at area 0 (moved_out (fields_of file)))
  unfolding row_of images_of cards_of
  going_ends e =
      let m : moved_out (fields_of (drop at file)) ≡ [] = ap moved_out e in
      let l : length (moved_out (fields_of (drop at file))) ≡ 0 = ap length m in
      (omega (arith, g.ends), put-none out to ∙ ap (put_at out to) (sym m) ∙ g.same)

  module _ (tag : ℕ) (v : List ℕ) (next : ℕ) (is_first : fields_of (drop at file) ≡ field tag v ∷ fields_of (drop next file)) where
    pub sizes-on : Images (fields_of (drop next file))
    unfolding Images
    sizes-on = (subst (λ (fs : List Field). Images fs) is_first g.sizes).1

    room_there : to + 128 * length (addresses_of (field tag v ∷ fields_of (drop next file))) ≤ length out
    room_there = subst (λ (fs : List Field). to + 128 * length (addresses_of fs) ≤ length out) is_first g.room

    pub room-here : tag ≡ 1 → to + 128 ≤ length out
    room-here e = omega (arith, room_there, card-step (field tag v) (fields_of (drop next file)) e)

    pub going_on : (past : ℕ) (after : List ℕ) → Put past after to out (of_field tag (fields_of (drop next file))) → Going file area after next past
    going_on past after p =
        let m : moved_out (fields_of (drop at file)) ≡ of_field tag (fields_of (drop next file)) ++ moved_out (fields_of (drop next file)) = ap moved_out is_first ∙ row_step (field tag v) (fields_of (drop next file)) in
        let l : length (moved_out (fields_of (drop at file))) ≡ length (of_field tag (fields_of (drop next file))) + length (moved_out (fields_of (drop next file))) = ap length m ∙ length-append (of_field tag (fields_of (drop next file))) (moved_out (fields_of (drop next file))) in
        let k : length (of_field tag (fields_of (drop next file))) + 128 * length (addresses_of (fields_of (drop next file))) ≤ 128 * length (addresses_of (field tag v ∷ fields_of (drop next file))) = count-step (field tag v) (fields_of (drop next file)) sizes-on in
        let q : to + 128 * length (addresses_of (field tag v ∷ fields_of (drop next file))) ≤ length out = room_there in
        let s : length (moved_out (fields_of (drop next file))) ≤ 128 * length (addresses_of (fields_of (drop next file))) = moved-short (fields_of (drop next file)) sizes-on in
        let n : past ≡ to + length (of_field tag (fields_of (drop next file))) = p.0 in
        let z : length after ≡ length out = ap length p.1 ∙ length-put out to (of_field tag (fields_of (drop next file))) (omega arith) in
        record {
          sizes = sizes-on;
          room = omega arith;
          size = z ∙ g.size;
          ends = omega (arith, g.ends);
          same =
              ap₂ (λ (x : List ℕ) (y : ℕ). put_at x y (moved_out (fields_of (drop next file)))) p.1 n
              ∙ put_on out to (of_field tag (fields_of (drop next file))) (moved_out (fields_of (drop next file))) (omega arith)
              ∙ ap (put_at out to) (sym m)
              ∙ g.same;
        }
