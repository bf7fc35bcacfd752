-- The places that the calls answer are those of the images: what they show is what the catalogue says.
-- Theorems over the definitions alone.
-- Assumes nothing.
use Rattle.std.specs.Prelude.{ℕ, ◌≡◌, true, false, cond, List, [], ◌∷◌, eqb, Ok}
use Rattle.refusal.specs.declared.Refusal.TheVariants.{NoSuchCard}
use Rattle.catalogue_rules.specs.Field.{Field}
use Rattle.catalogue_rules.specs.Reading.{catalogue, parsed, read, addresses_of, is_among}
use Rattle.catalogue_rules.specs.Cards.{Version, versions_at}
use Rattle.catalogue_rules.specs.declared.Hit.TheVariants.{InOverride}
use Rattle.catalogue_rules.specs.Lookup.{Shown, image, none, latest_in, given_in, looked_up, shown_at, shown_in, span}

-- The image of the last version; of the version with the number. 17 where there is none.
unfoldable pub last_of : Shown → List Version → Shown
last_of s [] = s
last_of s (v ∷ vs) = last_of (image v.image) vs

unfoldable pub numbered_in : ℕ → List Version → Shown
numbered_in n [] = none NoSuchCard
numbered_in n (v ∷ vs) = cond (eqb v.number n) (image v.image) (numbered_in n vs)

-- What the calls `latest`, `given` and `lookup` show.
abbrev pub latest_shown : ℕ → List ℕ → Shown
latest_shown a file = shown_at file (latest_in a (parsed file))

abbrev pub given_shown : ℕ → ℕ → List ℕ → Shown
given_shown a n file = shown_at file (given_in a n (parsed file))

abbrev pub lookup_shown : ℕ → List ℕ → List ℕ → Shown
lookup_shown a own main = shown_in own main (looked_up a (parsed own) (parsed main))

-- The call's place is in the override.
pub record FromOverride (a : ℕ) (own main : List ℕ) : Type 0 where
  pub start : ℕ
  pub size : ℕ
  pub hit : looked_up a (parsed own) (parsed main) ≡ Ok (InOverride (span start size))

-- Of a sound file the place is that of the image of the card's last version, or of its version with the number.
-- The override's whenever it has the card, and then the main file does not matter; else the main one's.
pub record PlacesShow : Type 0 where
  pub latest : (a : ℕ) (file : List ℕ) (fs : List Field) → read file ≡ catalogue fs → latest_shown a file ≡ last_of (none NoSuchCard) (versions_at a fs)
  pub given : (a n : ℕ) (file : List ℕ) (fs : List Field) → read file ≡ catalogue fs → given_shown a n file ≡ numbered_in n (versions_at a fs)
  pub override : (a : ℕ) (own main : List ℕ) (fs : List Field) → read own ≡ catalogue fs → is_among a (addresses_of fs) ≡ true → FromOverride a own main
  pub overridden : (a : ℕ) (own main : List ℕ) (fs : List Field) → read own ≡ catalogue fs → is_among a (addresses_of fs) ≡ true → lookup_shown a own main ≡ latest_shown a own
  pub main : (a : ℕ) (own file : List ℕ) (fs : List Field) → read own ≡ catalogue fs → is_among a (addresses_of fs) ≡ false → lookup_shown a own file ≡ latest_shown a file
