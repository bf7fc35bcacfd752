-- What the calls latest, given and lookup show after an addition or a drop: what was added is the latest, older versions and
-- all other cards stay as they were, and a drop takes the oldest version and nothing else.
-- Theorems over the definitions that the calls are proved to answer.
-- Assumes nothing.
use Rattle.std.specs.Prelude.{ℕ, ◌+◌, ◌≡◌, true, false, List, [], ◌∷◌}
use Rattle.refusal.specs.declared.Refusal.TheVariants.{NoSuchCard}
use Rattle.catalogue_rules.specs.Field.{Field}
use Rattle.catalogue_rules.specs.Reading.{catalogue, read, addresses_of, is_among}
use Rattle.catalogue_rules.specs.Cards.{Version, versions_at}
use Rattle.catalogue_rules.specs.RoundTrip.{Bytes}
use Rattle.catalogue_rules.specs.Lookup.{image, none}
use Rattle.catalogue_rules.specs.Places.{latest_shown, given_shown, lookup_shown}
use Rattle.catalogue_rules.specs.Edit.{bytes, whose, latest_number, leaves, added, dropped}

-- A card's latest version shows the same before and after; `lookup` with either file as the override, whatever the other is.
pub record LatestStays (file after : List ℕ) (b : ℕ) : Type 0 where
  pub latest : latest_shown b after ≡ latest_shown b file
  pub overriding : (main : List ℕ) → lookup_shown b after main ≡ lookup_shown b file main
  pub overridden : (own : List ℕ) → lookup_shown b own after ≡ lookup_shown b own file

-- .. and every version of it does.
pub record StaysAsItWas (file after : List ℕ) (b : ℕ) : Type 0 where
  pub newest : LatestStays file after b
  pub given : (n : ℕ) → given_shown b n after ≡ given_shown b n file

-- The image was added to a file that was read as a catalogue. `number` is what it got: the latest plus 1, from 1.
pub record Added (file new after : List ℕ) : Type 0 where
  pub those : List Field
  pub was_read : read file ≡ catalogue those
  pub number : ℕ
  pub is_next : number ≡ latest_number (versions_at (whose new) those) + 1
  pub latest : latest_shown (whose new) after ≡ image new
  pub given : given_shown (whose new) number after ≡ image new
  pub older : (n : ℕ) → (n ≡ number → ⊥) → given_shown (whose new) n after ≡ given_shown (whose new) n file
  pub overriding : (main : List ℕ) → lookup_shown (whose new) after main ≡ image new
  pub overridden : (own : List ℕ) (os : List Field) → read own ≡ catalogue os → is_among (whose new) (addresses_of os) ≡ false → lookup_shown (whose new) own after ≡ image new
  pub others : (b : ℕ) → (b ≡ whose new → ⊥) → StaysAsItWas file after b

-- The oldest version's number; 0 where there is none.
abbrev pub oldest_number : List Version → ℕ
oldest_number [] = 0
oldest_number (v ∷ vs) = v.number

-- A card that is gone: no version of it is there, and a lookup finds it in the main catalogue, as the call latest does, or nowhere.
pub record IsGone (after : List ℕ) (a : ℕ) : Type 0 where
  pub latest : latest_shown a after ≡ none NoSuchCard
  pub given : (n : ℕ) → given_shown a n after ≡ none NoSuchCard
  pub overriding : (main : List ℕ) → lookup_shown a after main ≡ latest_shown a main
  pub overridden : (own : List ℕ) (os : List Field) → read own ≡ catalogue os → is_among a (addresses_of os) ≡ false → lookup_shown a own after ≡ none NoSuchCard

-- The oldest version of a card was dropped: it is gone, the card's others stay; a card is gone with its last version.
pub record Dropped (file : List ℕ) (a : ℕ) (after : List ℕ) : Type 0 where
  pub those : List Field
  pub was_read : read file ≡ catalogue those
  pub gone : given_shown a (oldest_number (versions_at a those)) after ≡ none NoSuchCard
  pub rest : (n : ℕ) → (n ≡ oldest_number (versions_at a those) → ⊥) → given_shown a n after ≡ given_shown a n file
  pub stays : leaves (versions_at a those) ≡ false → LatestStays file after a
  pub left : leaves (versions_at a those) ≡ true → IsGone after a
  pub others : (b : ℕ) → (b ≡ a → ⊥) → StaysAsItWas file after b

-- By the calls, from file to file.
abbrev pub WhatWasAddedIsTheLatest : Type 0
WhatWasAddedIsTheLatest = (area : ℕ) (file new after : List ℕ) → Bytes file → added area file new ≡ bytes after → Added file new after

abbrev pub ADropTakesTheOldest : Type 0
ADropTakesTheOldest = (area : ℕ) (file : List ℕ) (a : ℕ) (after : List ℕ) → Bytes file → dropped area file a ≡ bytes after → Dropped file a after
