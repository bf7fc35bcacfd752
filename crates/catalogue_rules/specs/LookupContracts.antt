-- The contracts of the lookups, by name. Each fixes the answer: the place of that card's image, or the refusal.
-- Assumes nothing.
use Rattle.std.specs.Prelude.{ℕ, ◌≡◌, List, take, drop, Result}
use Rattle.refusal.specs.declared.Refusal.{Refusal}
use Rattle.catalogue_rules.specs.declared.Span.{Span}
use Rattle.catalogue_rules.specs.Reading.{parsed}
use Rattle.catalogue_rules.specs.declared.Hit.{Hit}
use Rattle.catalogue_rules.specs.Lookup.{latest_in, given_in, looked_up, shown_in, bytes_in}

abbrev pub Latest : List ℕ → ℕ → Result Span Refusal → Type 0
Latest file a r = r ≡ latest_in a (parsed file)

abbrev pub Given : List ℕ → ℕ → ℕ → Result Span Refusal → Type 0
Given file a n r = r ≡ given_in a n (parsed file)

abbrev pub LooksUp : List ℕ → List ℕ → ℕ → Result Hit Refusal → Type 0
LooksUp own main a r = r ≡ looked_up a (parsed own) (parsed main)

-- The bytes at a place of a file; those of what was found.
abbrev pub Part : List ℕ → ℕ → ℕ → List ℕ → Type 0
Part file start len r = r ≡ take len (drop start file)

abbrev pub ImageOf : List ℕ → List ℕ → Result Hit Refusal → List ℕ → Type 0
ImageOf own main hit r = r ≡ bytes_in (shown_in own main hit)
