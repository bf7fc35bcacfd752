-- A card whose versions and listing are the same in two sound files shows the same in both, by every call.
-- Assumes nothing.
use Prim.Native.Nat.{ℕ}
use mathlib.Core.Path.{◌≡◌, refl, sym, ap, ap₂, ◌∙◌}
use mathlib.Core.Bool.{Bool, true, false, cond, ◌&&◌, ◌||◌}
use mathlib.Core.List.{List}
use Rattle.std.specs.Prelude.{Result, Ok, Err}
use Rattle.refusal.specs.declared.Refusal.{Refusal}
use Rattle.refusal.specs.declared.Refusal.TheVariants.{NoSuchCard, NoPlace, ListedTwice}
use Rattle.catalogue_rules.specs.Field.{Field}
use Rattle.catalogue_rules.specs.Reading.{Reading, catalogue, refused, parsed, read, has_room, addresses_of, is_among, any_twice}
use Rattle.catalogue_rules.specs.Cards.{versions_at}
use Rattle.catalogue_rules.specs.declared.Span.{Span}
use Rattle.catalogue_rules.specs.Lookup.{spots_at, last_spot, where_sound, latest_in, in_override, in_main, else_main, looked_up, Shown, image, none, shown_at, shown_in}
use Rattle.catalogue_rules.specs.Places.{last_of, numbered_in, latest_shown, lookup_shown}
use Rattle.catalogue_rules.proofs.Shows.{sound, latest_is, places_show_lem}
use Rattle.catalogue_kept.specs.After.{LatestStays, StaysAsItWas}

-- ---- a sound main catalogue behind any override

-- What it shows, behind the override's 18 and 19.
guarded : Bool → Bool → Shown → Shown
guarded room twice (image v) = cond room (cond twice (none ListedTwice) (image v)) (none NoPlace)
guarded room twice (none why) = none why

guarded_is : (own main : List ℕ) (room twice : Bool) (p : Result Span Refusal) → shown_in own main (in_main (where_sound room twice p)) ≡ guarded room twice (shown_at main p)
unfolding guarded
guarded_is own main true true (Ok p) = refl
guarded_is own main true false (Ok p) = refl
guarded_is own main false twice (Ok p) = refl
guarded_is own main room twice (Err why) = refl

main_is : (own main : List ℕ) (os ms : List Field) (b : ℕ) → read main ≡ catalogue ms
    → shown_in own main (else_main b os (parsed main)) ≡ guarded (has_room os && true) (any_twice (addresses_of os) || false) (latest_shown b main)
unfolding else_main
main_is own main os ms b e =
    ap (λ (r : Reading). shown_in own main (else_main b os r)) (sound main ms e).was_parsed
    ∙ ap₂ (λ (x y : Bool). shown_in own main (in_main (where_sound (has_room os && x) (any_twice (addresses_of os) || y) (last_spot (Err NoSuchCard) (spots_at b 0 ms))))) (sound main ms e).room (sound main ms e).apart
    ∙ guarded_is own main (has_room os && true) (any_twice (addresses_of os) || false) (last_spot (Err NoSuchCard) (spots_at b 0 ms))
    ∙ ap (λ (p : Result Span Refusal). guarded (has_room os && true) (any_twice (addresses_of os) || false) (shown_at main p)) (sym (latest_is main ms e b))

-- The override's own place is in the override.
own_alone : (own main other : List ℕ) (p : Result Span Refusal) → shown_in own main (in_override p) ≡ shown_in own other (in_override p)
own_alone own main other (Ok p) = refl
own_alone own main other (Err why) = refl

-- ---- two sound files

module _ (file after : List ℕ) (fs gs : List Field) (before : read file ≡ catalogue fs) (now : read after ≡ catalogue gs) (b : ℕ) (lists : is_among b (addresses_of gs) ≡ is_among b (addresses_of fs)) where
  module _ (same : latest_shown b after ≡ latest_shown b file) where
    overriding-if : (t : Bool) (main : List ℕ) → is_among b (addresses_of fs) ≡ t → lookup_shown b after main ≡ lookup_shown b file main
    overriding-if true main m = places_show_lem.overridden b after main gs now (lists ∙ m) ∙ same ∙ sym (places_show_lem.overridden b file main fs before m)
    overriding-if false main m = places_show_lem.main b after main gs now (lists ∙ m) ∙ sym (places_show_lem.main b file main fs before m)

    either_way : (t : Bool) (own : List ℕ) (os : List Field) (p : Result Span Refusal)
        → shown_in own after (cond t (in_override p) (else_main b os (parsed after))) ≡ shown_in own file (cond t (in_override p) (else_main b os (parsed file)))
    either_way true own os p = own_alone own after file p
    either_way false own os p =
        main_is own after os gs b now
        ∙ ap (guarded (has_room os && true) (any_twice (addresses_of os) || false)) same
        ∙ sym (main_is own file os fs b before)

    behind-any : (own : List ℕ) (r : Reading) → shown_in own after (looked_up b r (parsed after)) ≡ shown_in own file (looked_up b r (parsed file))
    unfolding looked_up
    behind-any own (catalogue os) = either_way (is_among b (addresses_of os)) own os (latest_in b (catalogue os))
    behind-any own (refused why) = refl

    pub latest-stays : LatestStays file after b
    latest-stays =
        record {
          latest = same;
          overriding = λ main. overriding-if (is_among b (addresses_of fs)) main refl;
          overridden = λ own. behind-any own (parsed own);
        }

  pub stays : versions_at b gs ≡ versions_at b fs → StaysAsItWas file after b
  stays same =
      record {
        newest = latest-stays (places_show_lem.latest b after gs now ∙ ap (last_of (none NoSuchCard)) same ∙ sym (places_show_lem.latest b file fs before));
        given = λ n. places_show_lem.given b n after gs now ∙ ap (numbered_in n) same ∙ sym (places_show_lem.given b n file fs before);
      }
