-- What private functions of `catalogue_lookup` ensure: nobody needs it to believe the calls.
-- Assumes nothing.
use Rattle.std.specs.Prelude.{ℕ, ◌&&◌, ◌||◌, List, leb, Result}
use Rattle.refusal.specs.declared.Refusal.{Refusal}
use Rattle.catalogue_rules.specs.declared.Span.{Span}
use Rattle.catalogue_rules.specs.Field.{fields_of}
use Rattle.catalogue_rules.specs.Reading.{addresses_of, any_twice}
use Rattle.catalogue_rules.specs.declared.Hit.{Hit}
use Rattle.catalogue_rules.specs.Lookup.{where_sound, in_main}

-- The file's own tests, of a file with so many cards; those of two files at once.
abbrev pub found_in : ℕ → List ℕ → Result Span Refusal → Result Span Refusal
found_in cards file p = where_sound (leb cards 64) (any_twice (addresses_of (fields_of file))) p

abbrev pub main_in : ℕ → ℕ → List ℕ → List ℕ → Result Span Refusal → Result Hit Refusal
main_in cards others own main p =
    in_main (where_sound (leb cards 64 && leb others 64) (any_twice (addresses_of (fields_of own)) || any_twice (addresses_of (fields_of main))) p)
