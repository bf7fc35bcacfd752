-- What private functions of `catalogue_read` ensure: nobody needs it to believe the reading.
-- Assumes nothing.
use Rattle.std.specs.Prelude.{ℕ, ◌+◌, Bool, true, false, cond, ◌&&◌, List, [], ltb, Result, Ok, Err}
use Rattle.refusal.specs.declared.Refusal.{Refusal}
use Rattle.catalogue_rules.specs.declared.Counts.{Counts}
use Rattle.refusal.specs.declared.Refusal.TheVariants.{FieldDamaged}
use Rattle.catalogue_rules.specs.Field.{Field, fields_of, left_of}
use Rattle.catalogue_rules.specs.declared.Turn.{Turn}
use Rattle.catalogue_rules.specs.declared.Turn.TheVariants.{Numbered, Damaged}
use Rattle.catalogue_rules.specs.Reading.{catalogue, refused, ends, is_last, judged, counts}

abbrev pub rising : ℕ → ℕ → ℕ → Turn
rising nth last number = cond (ltb nth 8 && ltb last number) (Numbered (nth + 1) number) Damaged

-- Behind so many cards and fields.
abbrev pub behind_so : ℕ → ℕ → Result Counts Refusal → Result Counts Refusal
behind_so cards n (Ok told) = Ok (counts (cards + told.cards) (n + told.fields))
behind_so cards n (Err why) = Err why

-- The count as the last field.
unfoldable pub closes : Turn → ℕ → ℕ → Field → List ℕ → Result Counts Refusal
closes turn n cards f rest =
    behind_so cards n (judged (cond (ends turn n f (is_last (fields_of rest) (left_of rest))) (catalogue []) (refused FieldDamaged)))

abbrev pub one_if : Bool → ℕ
one_if true = 1
one_if false = 0
