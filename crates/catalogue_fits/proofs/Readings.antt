-- Fields taken in turn are refused by 15 or 16 only; the check of a file goes on to 18 and 19.
-- Assumes nothing.
use Prim.Native.Nat.{ℕ, ◌+◌}
use mathlib.Core.Path.{◌≡◌, refl}
use mathlib.Core.Bool.{Bool, true, false, cond, not}
use mathlib.Core.List.{List, [], ◌∷◌}
use lib.Dec.{eqb}
use Rattle.bits.proofs.Tests.{of_cond}
use Rattle.refusal.specs.declared.Refusal.TheVariants.{FieldDamaged, FileEndsEarly, NoPlace, ListedTwice}
use Rattle.catalogue_rules.specs.Field.{Field, fields_of, left_of}
use Rattle.catalogue_rules.specs.declared.Turn.{Turn}
use Rattle.catalogue_rules.specs.declared.Turn.TheVariants.{Begun}
use Rattle.catalogue_rules.specs.Turns.{after, is_damaged}
use Rattle.catalogue_rules.specs.Reading.{Reading, catalogue, refused, with, is_last, ends, reading, parsed, read, judged, has_room, addresses_of, any_twice}
use Rattle.catalogue_fits.specs.Tests.{Outcome, fine, because, first_of, check_tests}
use Rattle.catalogue_fits.specs.Fits.{outcome_of}

-- What fields taken in turn come to.
pub data InTurn : Reading → Type 0 where
  whole : (fs : List Field) → InTurn (catalogue fs)
  damaged : InTurn (refused FieldDamaged)
  early : InTurn (refused FileEndsEarly)

with_turn : (f : Field) {r : Reading} → InTurn r → InTurn (with f r)
with_turn f (whole fs) = whole (f ∷ fs)
with_turn f damaged = damaged
with_turn f early = early

reading_turn : (gs : List Field) (turn : Turn) (n : ℕ) (left : List ℕ) → InTurn (reading turn n gs left)
unfolding reading
reading_turn [] turn n left = early
reading_turn (f ∷ gs) turn n left =
    of_cond InTurn (eqb f.tag 4)
    (of_cond InTurn (ends turn n f (is_last gs left)) (whole []) damaged)
    (of_cond InTurn (is_damaged (after turn f)) damaged (with_turn f (reading_turn gs (after turn f) (n + 1) left)))

pub in_turn_lem : (file : List ℕ) → InTurn (parsed file)
in_turn_lem file = reading_turn (fields_of file) Begun 0 (left_of file)

-- 18, then 19; what is read of a whole file has these, whatever is made of it.
abbrev pub faults : Bool → Bool → Outcome
faults room twice = cond (not room) (because NoPlace) (cond twice (because ListedTwice) fine)

pub roomy_faults : (g : Reading → Outcome) (room twice : Bool) (fs : List Field)
    → g (catalogue fs) ≡ fine → g (refused ListedTwice) ≡ because ListedTwice → g (refused NoPlace) ≡ because NoPlace
    → g (cond room (cond twice (refused ListedTwice) (catalogue fs)) (refused NoPlace)) ≡ faults room twice
roomy_faults g true true fs sound listed full = listed
roomy_faults g true false fs sound listed full = sound
roomy_faults g false twice fs sound listed full = full

module _ (file : List ℕ) where
  check_in : {r : Reading} → InTurn r → parsed file ≡ r → outcome_of (judged (read file)) ≡ first_of (check_tests file)
  unfolding read
  check_in (whole fs) q = rw q (roomy_faults (λ r. outcome_of (judged r)) (has_room fs) (any_twice (addresses_of fs)) fs refl refl refl)
  check_in damaged q = rw q
  check_in early q = rw q

  pub check-exactly : outcome_of (judged (read file)) ≡ first_of (check_tests file)
  check-exactly = check_in (in_turn_lem file) refl
