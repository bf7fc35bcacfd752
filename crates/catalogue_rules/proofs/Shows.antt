-- The places that the calls answer show the images that the catalogue has.
-- Assumes nothing.
use Prim.Native.Nat.{ℕ, zero, suc, ◌+◌, ◌-◌, ◌≤◌}
use mathlib.Core.Path.{◌≡◌, refl, sym, ap, ap₂, ◌∙◌}
use mathlib.Core.Bool.{Bool, true, false, cond, ◌&&◌, ◌||◌}
use mathlib.Core.List.{List, [], ◌∷◌}
use native.Mathlib.Omega.{arith}
use lib.ListN.{length, take, drop}
use lib.Dec.{eqb}
use Rattle.std.specs.Prelude.{Result, Ok, Err}
use Rattle.catalogue_rules.specs.declared.Span.{Span}
use Rattle.refusal.specs.declared.Refusal.{Refusal}
use Rattle.refusal.specs.declared.Refusal.TheVariants.{NoSuchCard, NoPlace, ListedTwice}
use Rattle.catalogue_rules.specs.Field.{Field, number_at, fields_of, left_of}
use Rattle.catalogue_rules.proofs.At.{either_way}
use Rattle.catalogue_rules.specs.Turns.{address_of}
use Rattle.catalogue_rules.specs.Reading.{Reading, catalogue, refused, parsed, has_room, addresses_of, is_among, any_twice, roomy, read}
use Rattle.catalogue_rules.specs.Cards.{Version, versions_from, versions_at}
use Rattle.catalogue_rules.specs.Lookup.{Spot, spot, spots_from, spots_at, last_spot, numbered_spot, where_sound, latest_in, given_in, in_override, in_main, else_main, looked_up, Shown, image, none, shown_at, shown_in, span}
use Rattle.catalogue_rules.specs.Places.{last_of, numbered_in, latest_shown, given_shown, lookup_shown, FromOverride, PlacesShow}
use Rattle.catalogue_rules.proofs.Spots.{next_place, is_turned}
use Rattle.catalogue_rules.proofs.Accepted.{was_read_lem, spots_parsed, versions-parsed}
use Rattle.catalogue_rules.proofs.Listed.{First, listed_has}

-- The versions that places show.
unfoldable pub showing : List ℕ → List Spot → List Version
showing file [] = []
showing file (s ∷ ss) = record { number = s.number; image = take s.size (drop s.start file) } ∷ showing file ss

-- ---- the fields of a file, one at a time

module _ (file : List ℕ) where
  from-if : (a b c : Bool) (n start len : ℕ) (xs ys : List Spot) (vs ws : List Version) → showing file xs ≡ vs → showing file ys ≡ ws
      → showing file (cond a [] (cond b xs (cond c (spot n start len ∷ ys) ys)))
      ≡ cond a [] (cond b vs (cond c (record { number = n; image = take len (drop start file) } ∷ ws) ws))
  unfolding showing
  from-if true b c n start len xs ys vs ws x y = refl
  from-if false true c n start len xs ys vs ws x y = x
  from-if false false true n start len xs ys vs ws x y = ap (λ (l : List Version). record { number = n; image = take len (drop start file) } ∷ l) y
  from-if false false false n start len xs ys vs ws x y = y

  -- The fields from a place on; the bound falls by three bytes or more at each.
  shows-from : (k at n : ℕ) → length file - at ≤ k → showing file (spots_from at n (fields_of (drop at file))) ≡ versions_from n (fields_of (drop at file))
  unfolding spots_from versions_from showing
  shows-from zero at n h =
      either_way file at _ (λ tag start len st. absurd (omega (arith, st.fits, st.behind_head)))
      (λ s. ap (λ (fs : List Field). showing file (spots_from at n fs)) s.none ∙ ap (versions_from n) (sym s.none))
  shows-from (suc k) at n h =
      either_way file at _
      (λ tag start len st. ap (showing file) (is_turned file at st n)
      ∙ from-if (eqb tag 1) (eqb tag 2) (eqb tag 3) n start len _ _ _ _
      (shows-from k (start + len) (number_at (take len (drop start file)) 0) (omega (arith, st.fits, st.behind_head)))
      (shows-from k (start + len) n (omega (arith, st.fits, st.behind_head)))
      ∙ ap (versions_from n) (sym st.is_first))
      (λ s. ap (λ (fs : List Field). showing file (spots_from at n fs)) s.none ∙ ap (versions_from n) (sym s.none))

  pub shows-behind : (at : ℕ) → showing file (spots_from at 0 (fields_of (drop at file))) ≡ versions_from 0 (fields_of (drop at file))
  shows-behind at = shows-from (length file - at) at 0 (omega arith)

  card-if : (a b : Bool) (xs ys : List Spot) (vs ws : List Version) → showing file xs ≡ vs → showing file ys ≡ ws
      → showing file (cond (a && b) xs ys) ≡ cond a (cond b vs ws) ws
  card-if true true xs ys vs ws x y = x
  card-if true false xs ys vs ws x y = y
  card-if false b xs ys vs ws x y = y

  shows-card : (a k at : ℕ) → length file - at ≤ k → showing file (spots_at a at (fields_of (drop at file))) ≡ versions_at a (fields_of (drop at file))
  unfolding spots_at versions_at showing
  shows-card a zero at h =
      either_way file at _ (λ tag start len st. absurd (omega (arith, st.fits, st.behind_head)))
      (λ s. ap (λ (fs : List Field). showing file (spots_at a at fs)) s.none ∙ ap (versions_at a) (sym s.none))
  shows-card a (suc k) at h =
      either_way file at _
      (λ tag start len st. ap (λ (fs : List Field). showing file (spots_at a at fs)) st.is_first
      ∙ ap (λ (next : ℕ). showing file (cond (eqb tag 1 && eqb (address_of (take len (drop start file))) a) (spots_from next 0 (fields_of (drop (start + len) file))) (spots_at a next (fields_of (drop (start + len) file))))) (next_place file at st)
      ∙ card-if (eqb tag 1) (eqb (address_of (take len (drop start file))) a) _ _ _ _ (shows-behind (start + len)) (shows-card a k (start + len) (omega (arith, st.fits, st.behind_head)))
      ∙ ap (versions_at a) (sym st.is_first))
      (λ s. ap (λ (fs : List Field). showing file (spots_at a at fs)) s.none ∙ ap (versions_at a) (sym s.none))

  shows-last : (p : Result Span Refusal) (ss : List Spot) → shown_at file (last_spot p ss) ≡ last_of (shown_at file p) (showing file ss)
  unfolding last_spot last_of showing
  shows-last p [] = refl
  shows-last p (s ∷ ss) = shows-last (Ok (span s.start s.size)) ss

  numbered-if : (b : Bool) (start len : ℕ) (p : Result Span Refusal) (s : Shown) → shown_at file p ≡ s → shown_at file (cond b (Ok (span start len)) p) ≡ cond b (image (take len (drop start file))) s
  numbered-if true start len p s e = refl
  numbered-if false start len p s e = e

  -- The newest image behind a place.
  pub shows-newest : (at : ℕ) → shown_at file (last_spot (Err NoSuchCard) (spots_from at 0 (fields_of (drop at file)))) ≡ last_of (none NoSuchCard) (versions_from 0 (fields_of (drop at file)))
  shows-newest at = shows-last (Err NoSuchCard) (spots_from at 0 (fields_of (drop at file))) ∙ ap (last_of (none NoSuchCard)) (shows-behind at)

  shows-numbered : (n : ℕ) (ss : List Spot) → shown_at file (numbered_spot n ss) ≡ numbered_in n (showing file ss)
  unfolding numbered_spot numbered_in showing
  shows-numbered n [] = refl
  shows-numbered n (s ∷ ss) =
      numbered-if (eqb s.number n) s.start s.size _ _ (shows-numbered n ss)

-- ---- a card's image, in a file whose fields were taken in turn

-- The last of some versions has an image.
last-image : Version → List Version → List ℕ
last-image v [] = v.image
last-image v (w ∷ vs) = last-image w vs

last_is : (s : Shown) (v : Version) (vs : List Version) → last_of s (v ∷ vs) ≡ image (last-image v vs)
unfolding last_of last-image
last_is s v [] = refl
last_is s v (w ∷ vs) = last_is (image v.image) w vs

sound-place : (p : Result Span Refusal) → where_sound true false p ≡ p
sound-place (Ok p) = refl
sound-place (Err why) = refl

-- A sound file has room and lists no address twice.
pub record Sound (file : List ℕ) (fs : List Field) : Type 0 where
  pub was_parsed : parsed file ≡ catalogue fs
  pub room : has_room fs ≡ true
  pub apart : any_twice (addresses_of fs) ≡ false

roomy-if : (a b : Bool) (fs gs : List Field) (why more : Refusal) → cond a (cond b (refused why) (catalogue gs)) (refused more) ≡ catalogue fs → (a ≡ true) × (b ≡ false)
roomy-if true true fs gs why more e = let z : ◌≡◌ {A = ℕ} 0 1 = cc in absurd (omega arith)
roomy-if true false fs gs why more e = (refl, refl)
roomy-if false b fs gs why more e = let z : ◌≡◌ {A = ℕ} 0 1 = cc in absurd (omega arith)

is_roomy : (file : List ℕ) (fs : List Field) → read file ≡ catalogue fs → roomy (catalogue fs) ≡ catalogue fs
unfolding read
is_roomy file fs e = ap roomy (sym (was_read_lem file fs e)) ∙ e

pub sound : (file : List ℕ) (fs : List Field) → read file ≡ catalogue fs → Sound file fs
sound file fs e =
    let both : (has_room fs ≡ true) × (any_twice (addresses_of fs) ≡ false) = roomy-if (has_room fs) (any_twice (addresses_of fs)) fs fs ListedTwice NoPlace (is_roomy file fs e) in
    record { was_parsed = was_read_lem file fs e; room = both.0; apart = both.1 }

module _ (file : List ℕ) (fs : List Field) (e : read file ≡ catalogue fs) where
  unfaulty : (p : Result Span Refusal) → where_sound (has_room fs) (any_twice (addresses_of fs)) p ≡ p
  unfaulty p = ap₂ (λ (a b : Bool). where_sound a b p) (sound file fs e).room (sound file fs e).apart ∙ sound-place p

  pub latest_is : (a : ℕ) → latest_in a (parsed file) ≡ last_spot (Err NoSuchCard) (spots_at a 0 fs)
  unfolding latest_in
  latest_is a = ap (latest_in a) (was_read_lem file fs e) ∙ unfaulty (last_spot (Err NoSuchCard) (spots_at a 0 fs))

  given_is : (a n : ℕ) → given_in a n (parsed file) ≡ numbered_spot n (spots_at a 0 fs)
  unfolding given_in
  given_is a n = ap (given_in a n) (was_read_lem file fs e) ∙ unfaulty (numbered_spot n (spots_at a 0 fs))

  spots_show : (a : ℕ) → showing file (spots_at a 0 fs) ≡ versions_at a fs
  spots_show a =
      ap (showing file) (sym (spots_parsed file fs (was_read_lem file fs e) a))
      ∙ shows-card file a (length file) 0 (omega arith)
      ∙ versions-parsed file fs (was_read_lem file fs e) a

  latest-shows : (a : ℕ) → latest_shown a file ≡ last_of (none NoSuchCard) (versions_at a fs)
  latest-shows a = ap (shown_at file) (latest_is a) ∙ shows-last file (Err NoSuchCard) (spots_at a 0 fs) ∙ ap (last_of (none NoSuchCard)) (spots_show a)

  given-shows : (a n : ℕ) → given_shown a n file ≡ numbered_in n (versions_at a fs)
  given-shows a n = ap (shown_at file) (given_is a n) ∙ shows-numbered file n (spots_at a 0 fs) ∙ ap (numbered_in n) (spots_show a)

  -- ---- two files, this one as the override
  module _ (a : ℕ) (main : List ℕ) where
    looked-if : (t : Bool) → is_among a (addresses_of fs) ≡ t → looked_up a (parsed file) (parsed main) ≡ cond t (in_override (latest_in a (parsed file))) (else_main a fs (parsed main))
    unfolding looked_up
    looked-if t m =
        ap (λ (r : Reading). looked_up a r (parsed main)) (was_read_lem file fs e)
        ∙ ap (λ (b : Bool). cond b (in_override (latest_in a (catalogue fs))) (else_main a fs (parsed main))) m
        ∙ ap (λ (r : Reading). cond t (in_override (latest_in a r)) (else_main a fs (parsed main))) (sym (was_read_lem file fs e))

    in-override : (p : Result Span Refusal) → shown_in file main (in_override p) ≡ shown_at file p
    in-override (Ok p) = refl
    in-override (Err why) = refl

    override-shows : is_among a (addresses_of fs) ≡ true → lookup_shown a file main ≡ latest_shown a file
    override-shows m = ap (shown_in file main) (looked-if true m) ∙ in-override (latest_in a (parsed file))

    -- The place is one, since a card that is listed has a version.
    hit-if : (p : Result Span Refusal) (v : List ℕ) → shown_at file p ≡ image v → looked_up a (parsed file) (parsed main) ≡ in_override p → FromOverride a file main
    hit-if (Ok p) v shows h = record { start = p.start; size = p.len; hit = h }
    hit-if (Err why) v shows h = let z : ◌≡◌ {A = ℕ} 0 1 = cc in absurd (omega arith)

    from-override : is_among a (addresses_of fs) ≡ true → FromOverride a file main
    from-override m =
        let f : First (versions_at a fs) = listed_has a (fields_of file) 0 (left_of file) fs (was_read_lem file fs e) m in
        hit-if (latest_in a (parsed file)) (last-image f.first f.rest)
        (latest-shows a ∙ ap (last_of (none NoSuchCard)) f.are ∙ last_is (none NoSuchCard) f.first f.rest) (looked-if true m)

    -- The override is sound, so that the main file's own tests are left.
    main-hit : (p : Result Span Refusal) → shown_in file main (in_main p) ≡ shown_at main p
    main-hit (Ok p) = refl
    main-hit (Err why) = refl

    main-if : (r : Reading) → shown_in file main (else_main a fs r) ≡ shown_at main (latest_in a r)
    unfolding else_main latest_in
    main-if (catalogue gs) =
        ap₂ (λ (x y : Bool). shown_in file main (in_main (where_sound (x && has_room gs) (y || any_twice (addresses_of gs)) (last_spot (Err NoSuchCard) (spots_at a 0 gs))))) (sound file fs e).room (sound file fs e).apart
        ∙ main-hit (where_sound (has_room gs) (any_twice (addresses_of gs)) (last_spot (Err NoSuchCard) (spots_at a 0 gs)))
    main-if (refused why) = refl

    main-shows : is_among a (addresses_of fs) ≡ false → lookup_shown a file main ≡ latest_shown a main
    main-shows m = ap (shown_in file main) (looked-if false m) ∙ main-if (parsed main)

pub places_show_lem : PlacesShow
places_show_lem =
    record {
      latest = λ a file fs e. latest-shows file fs e a;
      given = λ a n file fs e. given-shows file fs e a n;
      override = λ a own main fs e m. from-override own fs e a main m;
      overridden = λ a own main fs e m. override-shows own fs e a main m;
      main = λ a own file fs e m. main-shows own fs e a file m;
    }
