-- What the calls show after an addition or a drop: what the changed list of versions says, card by card.
-- Assumes nothing.
use Prim.Native.Nat.{ℕ, ◌+◌}
use mathlib.Core.Path.{◌≡◌, refl, sym, ap, ◌∙◌}
use mathlib.Core.Bool.{true, false}
use mathlib.Core.List.{List}
use native.Mathlib.Omega.{arith}
use Rattle.refusal.specs.declared.Refusal.TheVariants.{NoSuchCard}
use Rattle.catalogue_rules.specs.Field.{Field}
use Rattle.catalogue_rules.specs.declared.Turn.TheVariants.{Begun}
use Rattle.catalogue_rules.specs.Reading.{catalogue, read}
use Rattle.catalogue_rules.specs.Cards.{versions_at}
use Rattle.catalogue_rules.specs.RoundTrip.{WellFormed}
use Rattle.catalogue_rules.proofs.Fit.{accepted_is_well_formed_lem}
use Rattle.catalogue_rules.specs.Lookup.{image, none}
use Rattle.catalogue_rules.specs.Places.{last_of, numbered_in, latest_shown, given_shown}
use Rattle.catalogue_rules.proofs.Shows.{places_show_lem}
use Rattle.catalogue_rules.specs.Edit.{whose, latest_number, leaves, with_added, without_version}
use Rattle.catalogue_kept.specs.Kept.{Becomes}
use Rattle.catalogue_kept.proofs.Told.{Told, told}
use Rattle.catalogue_kept.proofs.Files.{written_is_the_changed_lem}
use Rattle.catalogue_kept.specs.After.{Added, oldest_number, IsGone, Dropped, WhatWasAddedIsTheLatest, ADropTakesTheOldest}
use Rattle.catalogue_kept.proofs.Rows.{later, last_is, new_is, others_are, oldest-gone, rest_are, last-stays, none-later}
use Rattle.catalogue_kept.proofs.Fields.{version}
use Rattle.catalogue_kept.proofs.Grows.{added_more, added-others, added-listed, added-lists}
use Rattle.catalogue_kept.proofs.Shrinks.{versions_rise, dropped-others, dropped-later, dropped-lists, dropped-left, dropped-kept}
use Rattle.catalogue_kept.proofs.Stays.{latest-stays, stays}

-- The fields of an accepted file are in turn.
in_turn_lem : (fs : List Field) → WellFormed fs → Told Begun fs
in_turn_lem fs w = told fs Begun w.turns w.sizes

-- ---- an addition

module _ (file new after : List ℕ) (fs : List Field) (w : WellFormed fs) (before : read file ≡ catalogue fs) (now : read after ≡ catalogue (with_added new fs)) where
  added-latest : latest_shown (whose new) after ≡ image new
  added-latest =
      places_show_lem.latest (whose new) after (with_added new fs) now
      ∙ ap (last_of (none NoSuchCard)) (added_more new fs)
      ∙ last_is (none NoSuchCard) (versions_at (whose new) fs) (version (latest_number (versions_at (whose new) fs) + 1) new)

  added-given : given_shown (whose new) (latest_number (versions_at (whose new) fs) + 1) after ≡ image new
  added-given =
      places_show_lem.given (whose new) (latest_number (versions_at (whose new) fs) + 1) after (with_added new fs) now
      ∙ ap (numbered_in (latest_number (versions_at (whose new) fs) + 1)) (added_more new fs)
      ∙ new_is (versions_at (whose new) fs) (version (latest_number (versions_at (whose new) fs) + 1) new) (versions_rise (whose new) (in_turn_lem fs w)) (omega arith)

  added-older : (n : ℕ) → (n ≡ latest_number (versions_at (whose new) fs) + 1 → ⊥) → given_shown (whose new) n after ≡ given_shown (whose new) n file
  added-older n d =
      places_show_lem.given (whose new) n after (with_added new fs) now
      ∙ ap (numbered_in n) (added_more new fs)
      ∙ others_are n (versions_at (whose new) fs) (version (latest_number (versions_at (whose new) fs) + 1) new) d
      ∙ sym (places_show_lem.given (whose new) n file fs before)

  was_added : Added file new after
  was_added =
      record {
        those = fs;
        was_read = before;
        number = latest_number (versions_at (whose new) fs) + 1;
        is_next = refl;
        latest = added-latest;
        given = added-given;
        older = added-older;
        overriding = λ main. places_show_lem.overridden (whose new) after main (with_added new fs) now (added-listed new fs) ∙ added-latest;
        overridden = λ own os e m. places_show_lem.main (whose new) own after os e m ∙ added-latest;
        others = λ b d. stays file after fs (with_added new fs) before now b (added-lists new fs b d) (added-others new fs b d);
      }

pub what_was_added_is_the_latest_lem : WhatWasAddedIsTheLatest
what_was_added_is_the_latest_lem area file new after b e =
    let c : Becomes file after (with_added new) = written_is_the_changed_lem.addition area file new after b e in
    was_added file new after c.those (accepted_is_well_formed_lem file c.those b c.before) c.before c.now

-- ---- a drop

module _ (file : List ℕ) (a : ℕ) (after : List ℕ) (fs : List Field) (w : WellFormed fs) (before : read file ≡ catalogue fs) (now : read after ≡ catalogue (without_version a fs)) where
  less : versions_at a (without_version a fs) ≡ later (versions_at a fs)
  less = dropped-later a (in_turn_lem fs w) w.apart

  dropped-gone : given_shown a (oldest_number (versions_at a fs)) after ≡ none NoSuchCard
  dropped-gone =
      places_show_lem.given a (oldest_number (versions_at a fs)) after (without_version a fs) now
      ∙ ap (numbered_in (oldest_number (versions_at a fs))) less
      ∙ oldest-gone (versions_at a fs) (versions_rise a (in_turn_lem fs w))

  dropped-rest : (n : ℕ) → (n ≡ oldest_number (versions_at a fs) → ⊥) → given_shown a n after ≡ given_shown a n file
  dropped-rest n d =
      places_show_lem.given a n after (without_version a fs) now
      ∙ ap (numbered_in n) less
      ∙ rest_are n (versions_at a fs) d
      ∙ sym (places_show_lem.given a n file fs before)

  dropped-stays : leaves (versions_at a fs) ≡ false → latest_shown a after ≡ latest_shown a file
  dropped-stays l =
      places_show_lem.latest a after (without_version a fs) now
      ∙ ap (last_of (none NoSuchCard)) less
      ∙ last-stays (none NoSuchCard) (versions_at a fs) l
      ∙ sym (places_show_lem.latest a file fs before)

  dropped-none : leaves (versions_at a fs) ≡ true → latest_shown a after ≡ none NoSuchCard
  unfolding last_of
  dropped-none l =
      places_show_lem.latest a after (without_version a fs) now
      ∙ ap (last_of (none NoSuchCard)) (less ∙ none-later (versions_at a fs) l)

  given-none : (n : ℕ) → leaves (versions_at a fs) ≡ true → given_shown a n after ≡ none NoSuchCard
  unfolding numbered_in
  given-none n l =
      places_show_lem.given a n after (without_version a fs) now
      ∙ ap (numbered_in n) (less ∙ none-later (versions_at a fs) l)

  is_gone : leaves (versions_at a fs) ≡ true → IsGone after a
  is_gone l =
      record {
        latest = dropped-none l;
        given = λ n. given-none n l;
        overriding = λ main. places_show_lem.main a after main (without_version a fs) now (dropped-left a fs w.apart l);
        overridden = λ own os e m. places_show_lem.main a own after os e m ∙ dropped-none l;
      }

  was_dropped : Dropped file a after
  was_dropped =
      record {
        those = fs;
        was_read = before;
        gone = dropped-gone;
        rest = dropped-rest;
        stays = λ l. latest-stays file after fs (without_version a fs) before now a (dropped-kept a fs l) (dropped-stays l);
        left = is_gone;
        others = λ b d. stays file after fs (without_version a fs) before now b (dropped-lists a b fs d) (dropped-others a b d (in_turn_lem fs w));
      }

pub a_drop_takes_the_oldest_lem : ADropTakesTheOldest
a_drop_takes_the_oldest_lem area file a after b e =
    let c : Becomes file after (without_version a) = written_is_the_changed_lem.drop area file a after b e in
    was_dropped file a after c.those (accepted_is_well_formed_lem file c.those b c.before) c.before c.now
