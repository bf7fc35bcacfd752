-- Nothing else fits: a field for each call of the catalogue, over any file and arguments. Each names the contract that the code
-- ensures; two results that meet it are equal, and it is refused exactly by the first of the request's tests that holds.
-- Assumes nothing.
use Rattle.std.specs.Prelude.{ℕ, ◌≡◌, List, length, Result, Ok, Err}
use Rattle.refusal.specs.declared.Refusal.{Refusal}
use Rattle.catalogue_rules.specs.FileContracts.{Checks}
use Rattle.catalogue_rules.specs.declared.Hit.{Hit}
use Rattle.catalogue_rules.specs.LookupContracts.{Latest, Given, LooksUp, Part, ImageOf}
use Rattle.catalogue_rules.specs.PutContracts.{Adds, Drops, Imports, Exports}
use Rattle.catalogue_fits.specs.Tests.{Test, Outcome, fine, because, first_of, check_tests, latest_tests, given_tests, lookup_tests, add_tests, drop_tests, import_tests, export_tests}

-- What an answer says of a refusal, whatever else it tells.
abbrev pub outcome_of : {T : Type 0} → Result T Refusal → Outcome
outcome_of (Ok told) = fine
outcome_of (Err why) = because why

-- Two results that meet a contract are equal.
module _ {A : Type 0} where
  abbrev pub Only : (meets : A → Type 0) → Type 0
  Only meets = (r r' : A) → meets r → meets r' → r ≡ r'

  -- .. and the refusal is that of the first test that holds, or none where none holds.
  pub record Answers (meets : A → Type 0) (outcome : A → Outcome) (tests : List Test) : Type 0 where
    pub only : Only meets
    pub exactly : (r : A) → meets r → outcome r ≡ first_of tests

-- What a change answers, and the area that it leaves.
pub record After : Type 0 where
  pub answer : Result ℕ Refusal
  pub area : List ℕ

-- A refused change leaves every byte of the area as it came.
pub record Changes (meets : Result ℕ Refusal → List ℕ → List ℕ → Type 0) (area : List ℕ) (tests : List Test) : Type 0 where
  pub answers : Answers {A = After} (λ r. meets r.answer area r.area) (λ r. outcome_of r.answer) tests
  pub untouched : (r : After) → meets r.answer area r.area → (why : Refusal) → r.answer ≡ Err why → r.area ≡ area

pub record NothingElseFits : Type 0 where
  pub check : (file : List ℕ) → Answers (Checks file) outcome_of (check_tests file)
  pub latest : (file : List ℕ) (a : ℕ) → Answers (Latest file a) outcome_of (latest_tests file a)
  pub given : (file : List ℕ) (a n : ℕ) → Answers (Given file a n) outcome_of (given_tests file a n)
  pub lookup : (own main : List ℕ) (a : ℕ) → Answers (LooksUp own main a) outcome_of (lookup_tests own main a)
  pub part : (file : List ℕ) (start len : ℕ) → Only (Part file start len)
  pub image_of : (own main : List ℕ) (found : Result Hit Refusal) → Only (ImageOf own main found)
  pub add : (file image area : List ℕ) → Changes (Adds file image) area (add_tests (length area) file image)
  pub drop_oldest : (file : List ℕ) (a : ℕ) (area : List ℕ) → Changes (Drops file a) area (drop_tests (length area) file a)
  pub import : (row area : List ℕ) → Changes (Imports row) area (import_tests (length area) row)
  pub export : (file area : List ℕ) → Changes (Exports file) area (export_tests (length area) file)
