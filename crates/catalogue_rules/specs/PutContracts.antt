-- The contracts of the calls that change a catalogue, by name. Each fixes the answer and every byte of the lent area, refusals too.
-- Assumes nothing.
use Rattle.std.specs.Prelude.{ℕ, ◌≡◌, List, length, Result}
use Rattle.refusal.specs.declared.Refusal.{Refusal}
use Rattle.catalogue_rules.specs.Edit.{Change, added, dropped, imported, exported}
use Rattle.catalogue_rules.specs.Put.{answer_of, area_after}

-- The answer and the area after a change.
abbrev pub Writes : Change → Result ℕ Refusal → List ℕ → List ℕ → Type 0
Writes change r area after = (r ≡ answer_of change) × (after ≡ area_after change area)

abbrev pub Adds : List ℕ → List ℕ → Result ℕ Refusal → List ℕ → List ℕ → Type 0
Adds file image r area after = Writes (added (length area) file image) r area after

abbrev pub Drops : List ℕ → ℕ → Result ℕ Refusal → List ℕ → List ℕ → Type 0
Drops file a r area after = Writes (dropped (length area) file a) r area after

abbrev pub Imports : List ℕ → Result ℕ Refusal → List ℕ → List ℕ → Type 0
Imports row r area after = Writes (imported (length area) row) r area after

abbrev pub Exports : List ℕ → Result ℕ Refusal → List ℕ → List ℕ → Type 0
Exports file r area after = Writes (exported (length area) file) r area after
