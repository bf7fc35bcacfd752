-- Each lookup answers the first of its tests that holds, by what its files are read as.
-- Assumes nothing.
use Prim.Native.Nat.{ℕ}
use mathlib.Core.Path.{◌≡◌, refl, ap, ◌∙◌}
use mathlib.Core.Bool.{Bool, true, false, cond, ◌&&◌, ◌||◌, not}
use mathlib.Core.List.{List}
use Rattle.std.specs.Prelude.{Result, Ok, Err}
use Rattle.refusal.specs.declared.Refusal.{Refusal}
use Rattle.refusal.specs.declared.Refusal.TheVariants.{NoSuchCard, NoPlace, ListedTwice}
use Rattle.catalogue_rules.specs.Field.{Field}
use Rattle.catalogue_rules.specs.Reading.{Reading, catalogue, parsed, has_room, addresses_of, is_among, any_twice}
use Rattle.catalogue_rules.specs.declared.Span.{Span}
use Rattle.catalogue_rules.specs.Lookup.{spots_at, last_spot, where_sound, latest_in, given_in, in_override, in_main, else_main, looked_up}
use Rattle.catalogue_fits.specs.Tests.{Outcome, fine, because, first_of, latest_tests, given_tests, lookup_tests}
use Rattle.catalogue_fits.specs.Fits.{outcome_of}
use Rattle.catalogue_fits.proofs.Readings.{InTurn, whole, damaged, early, in_turn_lem, faults}
use Rattle.catalogue_fits.proofs.Places.{latest-found, given-found}

module _ (file : List ℕ) (a : ℕ) where
  latest_in_lem : {r : Reading} → InTurn r → parsed file ≡ r → outcome_of (latest_in a (parsed file)) ≡ first_of (latest_tests file a)
  unfolding latest_in
  latest_in_lem (whole fs) q = rw q (latest-found file fs q a (has_room fs) (any_twice (addresses_of fs)))
  latest_in_lem damaged q = rw q
  latest_in_lem early q = rw q

  pub latest-exactly : outcome_of (latest_in a (parsed file)) ≡ first_of (latest_tests file a)
  latest-exactly = latest_in_lem (in_turn_lem file) refl

  module _ (n : ℕ) where
    given_in_lem : {r : Reading} → InTurn r → parsed file ≡ r → outcome_of (given_in a n (parsed file)) ≡ first_of (given_tests file a n)
    unfolding given_in
    given_in_lem (whole fs) q = rw q (given-found a n fs (has_room fs) (any_twice (addresses_of fs)))
    given_in_lem damaged q = rw q
    given_in_lem early q = rw q

    pub given-exactly : outcome_of (given_in a n (parsed file)) ≡ first_of (given_tests file a n)
    given-exactly = given_in_lem (in_turn_lem file) refl

-- ---- two files

override_outcome : (p : Result Span Refusal) → outcome_of (in_override p) ≡ outcome_of p
override_outcome (Ok p) = refl
override_outcome (Err why) = refl

main_outcome : (p : Result Span Refusal) → outcome_of (in_main p) ≡ outcome_of p
main_outcome (Ok p) = refl
main_outcome (Err why) = refl

-- The override's faults alone; those of either file.
own_faults : (room twice : Bool) → faults room twice ≡ cond (not room || false) (because NoPlace) (cond (twice || false) (because ListedTwice) fine)
own_faults true true = refl
own_faults true false = refl
own_faults false twice = refl

both_faults : (room room' twice : Bool) → faults (room && room') twice ≡ cond (not room || not room') (because NoPlace) (cond twice (because ListedTwice) fine)
both_faults true room' twice = refl
both_faults false room' twice = refl

module _ (own main : List ℕ) (a : ℕ) where
  -- The override lacks the card.
  lacks_in : (fs : List Field) → parsed own ≡ catalogue fs → is_among a (addresses_of fs) ≡ false → {m : Reading} → InTurn m → parsed main ≡ m
      → outcome_of (looked_up a (parsed own) (parsed main)) ≡ first_of (lookup_tests own main a)
  unfolding looked_up else_main
  lacks_in fs q e (whole gs) q' = rw (q, q', e)
      (main_outcome (where_sound (has_room fs && has_room gs) (any_twice (addresses_of fs) || any_twice (addresses_of gs)) (last_spot (Err NoSuchCard) (spots_at a 0 gs)))
      ∙ latest-found main gs q' a (has_room fs && has_room gs) (any_twice (addresses_of fs) || any_twice (addresses_of gs))
      ∙ ap (λ (o : Outcome). cond (not (is_among a (addresses_of gs))) (because NoSuchCard) o) (both_faults (has_room fs) (has_room gs) (any_twice (addresses_of fs) || any_twice (addresses_of gs))))
  lacks_in fs q e damaged q' = rw (q, q', e)
  lacks_in fs q e early q' = rw (q, q', e)

  has_in : (fs : List Field) → parsed own ≡ catalogue fs → is_among a (addresses_of fs) ≡ true → outcome_of (looked_up a (parsed own) (parsed main)) ≡ first_of (lookup_tests own main a)
  unfolding looked_up latest_in
  has_in fs q e = rw (q, e)
      (override_outcome (where_sound (has_room fs) (any_twice (addresses_of fs)) (last_spot (Err NoSuchCard) (spots_at a 0 fs)))
      ∙ latest-found own fs q a (has_room fs) (any_twice (addresses_of fs))
      ∙ ap (λ (t : Bool). cond (not t) (because NoSuchCard) (faults (has_room fs) (any_twice (addresses_of fs)))) e
      ∙ own_faults (has_room fs) (any_twice (addresses_of fs)))

  lookup-if : (fs : List Field) → parsed own ≡ catalogue fs → (t : Bool) → is_among a (addresses_of fs) ≡ t → outcome_of (looked_up a (parsed own) (parsed main)) ≡ first_of (lookup_tests own main a)
  lookup-if fs q true e = has_in fs q e
  lookup-if fs q false e = lacks_in fs q e (in_turn_lem main) refl

  lookup_in : {r : Reading} → InTurn r → parsed own ≡ r → outcome_of (looked_up a (parsed own) (parsed main)) ≡ first_of (lookup_tests own main a)
  unfolding looked_up
  lookup_in (whole fs) q = lookup-if fs q (is_among a (addresses_of fs)) refl
  lookup_in damaged q = rw q
  lookup_in early q = rw q

  pub lookup-exactly : outcome_of (looked_up a (parsed own) (parsed main)) ≡ first_of (lookup_tests own main a)
  lookup-exactly = lookup_in (in_turn_lem own) refl
