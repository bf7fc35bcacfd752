-- What the call answers and leaves, by what was found on the way.
-- Assumes nothing.
use Prim.Native.Nat.{ℕ, ◌+◌, ◌-◌, ◌≤◌, ◌<◌}
use mathlib.Core.Path.{◌≡◌, refl, sym, ap, ap₂, subst, ◌∙◌}
use mathlib.Core.Bool.{Bool, true, false, cond, not}
use mathlib.Core.List.{List}
use native.Mathlib.Omega.{arith}
use borrow.Author.Tests.{lt-ltb, le-ltb, lt-leb, le-leb}
use lib.ListN.{length, drop}
use lib.Dec.{ltb, leb}
use Rattle.std.specs.Prelude.{Option, Result, Some, None, Ok, Err}
use Rattle.std.specs.Option.{ok_or}
use Rattle.refusal.specs.declared.Refusal.{Refusal}
use Rattle.refusal.specs.declared.Refusal.TheVariants.{ArgumentOutside, NoSuchCard, NoPlace, ListedTwice}
use Rattle.catalogue_rules.specs.Field.{Field, fields_of}
use Rattle.catalogue_rules.specs.declared.Counts.{Counts}
use Rattle.catalogue_rules.specs.Reading.{Reading, catalogue, refused, parsed, addresses_of, is_among, any_twice, file_of, read, judged, counts}
use Rattle.catalogue_rules.specs.Cards.{versions_from}
use Rattle.catalogue_rules.specs.RoundTrip.{Bytes}
use Rattle.catalogue_rules.proofs.Checked.{is_read}
use Rattle.catalogue_rules.proofs.Accepted.{addresses_parsed}
use Rattle.catalogue_rules.specs.Edit.{Change, bytes, no, or_else, on_catalogue, without_version, dropped_from, dropped}
use Rattle.catalogue_put.specs.Places.{card_place, field_place, seek_if}
use Rattle.catalogue_put.proofs.Behind.{missing_if, behind-if}
use Rattle.catalogue_rules.proofs.Changes.{unread}
use Rattle.catalogue_drop.specs.Around.{around, begins, number_place, image_place, new_file, Behind}
use Rattle.catalogue_drop.proofs.Law.{is_behind, is_new}

-- ---- behind the address

as_new : {x y : List ℕ} (area : List ℕ) {after : List ℕ} {r : ℕ} → x ≡ y → (r ≡ length x) × (after ≡ begins x area) → (r ≡ length y) × (after ≡ begins y area)
as_new area e h = (h.0 ∙ ap length e, h.1 ∙ ap (λ (l : List ℕ). begins l area) e)

pushed : (t : Bool) (f : ℕ → ℕ → List ℕ) (a b c d : ℕ) → f (cond t a b) (cond t c d) ≡ cond t (f a c) (f b d)
pushed true f a b c d = refl
pushed false f a b c d = refl

module _ (file : List ℕ) (at n : ℕ) {number image : ℕ} (p : number ≡ number_place file at) (q : image ≡ number + field_place 3 (fields_of (drop number file))) where
  image_at : image ≡ image_place file at
  image_at = q ∙ ap (λ (k : ℕ). k + field_place 3 (fields_of (drop k file))) p

  -- The bytes that were left are the new file, if the right ones were.
  module _ {versions : ℕ} (v : versions ≡ length (versions_from 0 (fields_of (drop at file)))) where
    left-with : (t : Bool) {kept left : ℕ} → ltb (length (versions_from 0 (fields_of (drop at file)))) 2 ≡ t → kept ≡ cond t (at - 9) at → left ≡ cond t (n - 3) (n - 2)
        → around file kept at number image left ≡ new_file file at n
    unfolding new_file
    left-with t {kept} {left} h k l =
        ap₂ (λ (x y : ℕ). around file x at number image y) k l
        ∙ ap₂ (λ (x y : ℕ). around file (cond t (at - 9) at) at x y (cond t (n - 3) (n - 2))) p image_at
        ∙ pushed t (λ (x y : ℕ). around file x at (number_place file at) (image_place file at) y) (at - 9) at (n - 3) (n - 2)
        ∙ ap (λ (b : Bool). cond b (around file (at - 9) at (number_place file at) (image_place file at) (n - 3)) (around file at at (number_place file at) (image_place file at) (n - 2))) (sym h)

    pub last_goes : versions < 2 → (kept left : ℕ) (area : List ℕ) {after : List ℕ} {r : ℕ}
        → (r ≡ length (around file kept at number image left)) × (after ≡ begins (around file kept at number image left) area)
        → kept ≡ at - 9 → left ≡ n - 3 → (r ≡ length (new_file file at n)) × (after ≡ begins (new_file file at n) area)
    last_goes h kept left area x k l =
        as_new area (left-with true (lt-ltb (length (versions_from 0 (fields_of (drop at file)))) 2 (omega arith)) k l) x

    pub one_goes : 2 ≤ versions → (kept left : ℕ) (area : List ℕ) {after : List ℕ} {r : ℕ}
        → (r ≡ length (around file kept at number image left)) × (after ≡ begins (around file kept at number image left) area)
        → kept ≡ at → left ≡ n - 2 → (r ≡ length (new_file file at n)) × (after ≡ begins (new_file file at n) area)
    one_goes h kept left area x k l =
        as_new area (left-with false (le-ltb (length (versions_from 0 (fields_of (drop at file)))) 2 (omega arith)) k l) x

-- ---- the whole call

-- What `ok_or` makes of a place: that place, or the refusal.
module _ (why : Refusal) {o : Option ℕ} {r : Result ℕ Refusal} (is : r ≡ ok_or o why) where
  some_if : (o' : Option ℕ) → o ≡ o' → {at : ℕ} → r ≡ Ok at → Some at ≡ o'
  some_if None q e = let z : Err why ≡ Ok _ = sym (is ∙ ap (λ (x : Option ℕ). ok_or x why) q) ∙ e in cc
  some_if (Some n) q e = let same : Ok n ≡ Ok _ = sym (is ∙ ap (λ (x : Option ℕ). ok_or x why) q) ∙ e in cc

  pub placed_at : {at : ℕ} → r ≡ Ok at → Some at ≡ o
  placed_at e = some_if o refl e

  none_if : (o' : Option ℕ) → o ≡ o' → {other : Refusal} → r ≡ Err other → (None ≡ o') × (other ≡ why)
  none_if None q e = let same : Err why ≡ Err _ = sym (is ∙ ap (λ (x : Option ℕ). ok_or x why) q) ∙ e in (refl, cc)
  none_if (Some n) q e = let z : Ok n ≡ Err _ = sym (is ∙ ap (λ (x : Option ℕ). ok_or x why) q) ∙ e in (cc, cc)

  pub not_placed : {other : Refusal} → r ≡ Err other → (None ≡ o) × (other ≡ why)
  not_placed e = none_if o refl e

-- A file whose fields were taken in turn has so many cards and fields.
record Taken (r : Reading) (told : Counts) : Type 0 where
  fs : List Field
  are : r ≡ catalogue fs
  cards : told.cards ≡ length (addresses_of fs)
  many : told.fields ≡ length fs

taken : (r : Reading) (told : Counts) → Ok told ≡ judged r → Taken r told
taken (catalogue fs) told e =
    let same : told ≡ counts (length (addresses_of fs)) (length fs) = cc in
    record { fs = fs; are = refl; cards = ap (λ (c : Counts). c.cards) same; many = ap (λ (c : Counts). c.fields) same }
taken (refused why) told e = let z : ◌≡◌ {A = ℕ} 0 1 = cc in absurd (omega arith)

-- The tests in their order, and the new file behind them.
abbrev tests : Bool → Bool → Bool → List ℕ → Change
tests there room twice new = or_else (not there) NoSuchCard (or_else (not room) NoPlace (or_else twice ListedTwice (bytes new)))

module _ (area : ℕ) (file : List ℕ) (a : ℕ) where
  pub too_short : area < length file → dropped area file a ≡ no ArgumentOutside
  unfolding dropped
  too_short h = ap (λ (b : Bool). or_else b ArgumentOutside (on_catalogue (parsed file) (dropped_from a))) (lt-ltb area (length file) h)

  module _ (fits : length file ≤ area) where
    judged_so : dropped area file a ≡ on_catalogue (parsed file) (dropped_from a)
    unfolding dropped
    judged_so = ap (λ (b : Bool). or_else b ArgumentOutside (on_catalogue (parsed file) (dropped_from a))) (le-ltb area (length file) fits)

    pub no_file : {why : Refusal} → Err why ≡ judged (parsed file) → dropped area file a ≡ no why
    no_file {why} e = judged_so ∙ unread (dropped_from a) (parsed file) why e

    module _ {told : Counts} (e : Ok told ≡ judged (parsed file)) where
      was : Taken (parsed file) told
      was = taken (parsed file) told e

      same-cards : addresses_of (fields_of file) ≡ addresses_of was.fs
      same-cards = addresses_parsed file was.fs was.are

      tested : (there room twice : Bool) → is_among a (addresses_of (fields_of file)) ≡ there → leb told.cards 64 ≡ room → any_twice (addresses_of (fields_of file)) ≡ twice
          → dropped area file a ≡ tests there room twice (file_of (without_version a was.fs))
      unfolding dropped_from
      tested there room twice m r t =
          judged_so
          ∙ ap (λ (x : Reading). on_catalogue x (dropped_from a)) was.are
          ∙ ap₂ (λ (x y : Bool). tests x y (any_twice (addresses_of was.fs)) (file_of (without_version a was.fs)))
          (ap (is_among a) (sym same-cards) ∙ m) (ap (λ (k : ℕ). leb k 64) (sym was.cards) ∙ r)
          ∙ ap (λ (x : Bool). tests there room x (file_of (without_version a was.fs))) (ap any_twice (sym same-cards) ∙ t)

      pub no-card : None ≡ seek_if (is_among a (addresses_of (fields_of file))) (card_place a (fields_of file)) → dropped area file a ≡ no NoSuchCard
      no-card s = tested false _ _ (missing_if (is_among a (addresses_of (fields_of file))) (card_place a (fields_of file)) s) refl refl

      module _ {at : ℕ} (s : Some at ≡ seek_if (is_among a (addresses_of (fields_of file))) (card_place a (fields_of file))) where
        there : (is_among a (addresses_of (fields_of file)) ≡ true) × (at ≡ card_place a (fields_of file))
        there = behind-if (is_among a (addresses_of (fields_of file))) (card_place a (fields_of file)) at s

        pub too_many : 64 < told.cards → dropped area file a ≡ no NoPlace
        too_many h = tested true false _ there.0 (lt-leb told.cards 64 h) refl

        module _ (room : told.cards ≤ 64) {twice : Bool} (t : twice ≡ any_twice (addresses_of (fields_of file))) where
          pub is_twice : twice ≡ true → dropped area file a ≡ no ListedTwice
          is_twice y = tested true true true there.0 (le-leb told.cards 64 room) (sym t ∙ y)

          -- Behind the tests the file is a sound one.
          module _ (y : twice ≡ false) (b : Bytes file) where
            was_sound : read file ≡ catalogue was.fs
            was_sound =
                is_read file was.fs was.are (le-leb (length (addresses_of was.fs)) 64 (omega (arith, was.cards))) (ap any_twice (sym same-cards) ∙ sym t ∙ y)

            among : is_among a (addresses_of was.fs) ≡ true
            among = ap (is_among a) (sym same-cards) ∙ there.0

            pub behind_it : Behind file at told.fields
            behind_it =
                subst (λ (k : ℕ). Behind file k told.fields) (sym there.1)
                (subst (λ (k : ℕ). Behind file (card_place a (fields_of file)) k) (sym was.many) (is_behind a file was.fs b was_sound among))

            pub new_so : dropped area file a ≡ bytes (new_file file at told.fields)
            new_so =
                tested true true false there.0 (le-leb told.cards 64 room) (sym t ∙ y)
                ∙ ap bytes
                (sym (is_new a file was.fs b was_sound among)
                ∙ ap₂ (λ (x y : ℕ). new_file file x y) (sym there.1) (sym was.many))
