-- Nothing else fits: each contract is an equation, so that two results are equal, and its right side has the first refusal.
-- Assumes nothing.
use Prim.Native.Nat.{ℕ}
use mathlib.Core.Path.{◌≡◌, refl, sym, ap, ◌∙◌}
use mathlib.Core.List.{List}
use native.Mathlib.Omega.{arith}
use lib.ListN.{length, take, drop}
use Rattle.std.specs.Prelude.{Result, Err}
use Rattle.refusal.specs.declared.Refusal.{Refusal}
use Rattle.catalogue_rules.specs.Reading.{parsed, read, judged}
use Rattle.catalogue_rules.specs.Lookup.{latest_in, given_in, looked_up, shown_in, bytes_in}
use Rattle.catalogue_rules.specs.Edit.{Change, bytes, no, added, dropped, imported, exported}
use Rattle.catalogue_rules.specs.Put.{answer_of, area_after}
use Rattle.catalogue_rules.specs.PutContracts.{Writes, Adds, Drops, Imports, Exports}
use Rattle.catalogue_fits.specs.Tests.{Test, Outcome, first_of, check_tests, latest_tests, given_tests, lookup_tests, add_tests, drop_tests, import_tests, export_tests}
use Rattle.catalogue_fits.specs.Fits.{outcome_of, Only, Answers, After, Changes, NothingElseFits}
use Rattle.catalogue_fits.proofs.Readings.{check-exactly}
use Rattle.catalogue_fits.proofs.Lookups.{latest-exactly, given-exactly, lookup-exactly}
use Rattle.catalogue_fits.proofs.Edits.{add-exactly, drop-exactly, import-exactly, export-exactly}

-- What is said to be a value is no other.
module _ {A : Type 0} (x : A) where
  only_one : Only (λ (r : A). r ≡ x)
  only_one r r' e e' = e ∙ sym e'

  answers_as : (outcome : A → Outcome) (tests : List Test) → outcome x ≡ first_of tests → Answers (λ (r : A). r ≡ x) outcome tests
  answers_as outcome tests first = record { only = only_one; exactly = λ r e. ap outcome e ∙ first }

-- A refused change leaves the area.
left_alone : (change : Change) (area : List ℕ) (why : Refusal) → answer_of change ≡ Err why → area_after change area ≡ area
left_alone (bytes file) area why e = let z : ◌≡◌ {A = ℕ} 0 1 = cc in absurd (omega arith)
left_alone (no other) area why e = refl

-- A contract that says at this area what a change writes.
module _ (meets : Result ℕ Refusal → List ℕ → List ℕ → Type 0) (area : List ℕ) (change : Change) (writes : (r : Result ℕ Refusal) (after : List ℕ) → meets r area after → Writes change r area after) where
  one-result : (r r' : After) → Writes change r.answer area r.area → Writes change r'.answer area r'.area → r ≡ r'
  one-result r r' w w' = λ i. record { answer = (w.0 ∙ sym w'.0) i; area = (w.1 ∙ sym w'.1) i }

  changes_as : (tests : List Test) → outcome_of (answer_of change) ≡ first_of tests → Changes meets area tests
  changes_as tests first =
      record {
        answers = record {
          only = λ r r' m m'. one-result r r' (writes r.answer r.area m) (writes r'.answer r'.area m');
          exactly = λ r m. ap outcome_of (writes r.answer r.area m).0 ∙ first;
        };
        untouched = λ r m why e. let w : Writes change r.answer area r.area = writes r.answer r.area m in w.1 ∙ left_alone change area why (sym w.0 ∙ e);
      }

pub nothing_else_fits_lem : NothingElseFits
nothing_else_fits_lem =
    record {
      check = λ file. answers_as (judged (read file)) outcome_of (check_tests file) (check-exactly file);
      latest = λ file a. answers_as (latest_in a (parsed file)) outcome_of (latest_tests file a) (latest-exactly file a);
      given = λ file a n. answers_as (given_in a n (parsed file)) outcome_of (given_tests file a n) (given-exactly file a n);
      lookup = λ own main a. answers_as (looked_up a (parsed own) (parsed main)) outcome_of (lookup_tests own main a) (lookup-exactly own main a);
      part = λ file start len. only_one (take len (drop start file));
      image_of = λ own main found. only_one (bytes_in (shown_in own main found));
      add = λ file image area. changes_as (Adds file image) area (added (length area) file image) (λ r after m. m) (add_tests (length area) file image) (add-exactly (length area) file image);
      drop_oldest = λ file a area. changes_as (Drops file a) area (dropped (length area) file a) (λ r after m. m) (drop_tests (length area) file a) (drop-exactly (length area) file a);
      import = λ row area. changes_as (Imports row) area (imported (length area) row) (λ r after m. m) (import_tests (length area) row) (import-exactly (length area) row);
      export = λ file area. changes_as (Exports file) area (exported (length area) file) (λ r after m. m) (export_tests (length area) file) (export-exactly (length area) file);
    }
