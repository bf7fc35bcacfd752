-- The contract of the check of a file, by name.
-- Assumes nothing.
use Rattle.std.specs.Prelude.{ℕ, ◌≡◌, List, Result}
use Rattle.refusal.specs.declared.Refusal.{Refusal}
use Rattle.catalogue_rules.specs.declared.Counts.{Counts}
use Rattle.catalogue_rules.specs.Reading.{read, judged}

-- How many cards and fields, or the refusal.
abbrev pub Checks : List ℕ → Result Counts Refusal → Type 0
Checks file r = r ≡ judged (read file)
