-- The order of the refusals, whosever call it is. Assumes nothing.
use Rattle.std.specs.Prelude.{Bool, true, false, cond, ◌&&◌, List, [], ◌∷◌, ℕ, eqb}
use Rattle.refusal.specs.declared.Refusal.{Refusal}
use Rattle.refusal.specs.declared.Refusal.TheVariants.{StateUnsound, LengthOutside, SixteenUnreported, NoRoom, CardUnfit, AreaShort, MakerWrong, ChecksumWrong, SecondaryWrong, OutOfTurn, ArgumentOutside, NeverOpened, FieldDamaged, FileEndsEarly, NoSuchCard, NoPlace, ListedTwice}
use Rattle.refusal.specs.Number.{number_of}

-- First in this order wins: 1, 12, 13, 7, 2, 3, 5, 4, 11, then a catalogue's 15 to 19, then 8, 9, 10. (6 comes only inside a service.)
abbrev pub order : List Refusal
order =
    StateUnsound ∷ ArgumentOutside ∷ NeverOpened ∷ AreaShort ∷ LengthOutside ∷ SixteenUnreported ∷ CardUnfit ∷ NoRoom ∷ OutOfTurn
    ∷ FieldDamaged ∷ FileEndsEarly ∷ NoSuchCard ∷ NoPlace ∷ ListedTwice ∷ MakerWrong ∷ ChecksumWrong ∷ SecondaryWrong ∷ []

-- A test, with the refusal that it gives.
pub record Test : Type 0 where
  pub holds : Bool
  pub gives : Refusal

-- A test that gives a refusal.
abbrev pub if : Bool → Refusal → Test
if b why = record { holds = b; gives = why }

-- What a call comes to: no refusal, or one.
pub data Outcome : Type 0 where
  fine : Outcome
  because : Refusal → Outcome

-- The first that holds.
abbrev pub first_of : List Test → Outcome
first_of [] = fine
first_of (t ∷ ts) = cond t.holds (because t.gives) (first_of ts)

-- its number; 0 is none
abbrev pub number_in : Outcome → ℕ
number_in fine = 0
number_in (because why) = number_of why

-- A row's refusals stand in the order: each at or behind the place of the one before it.
unfoldable pub from : Refusal → List Refusal → List Refusal
from why [] = []
from why (x ∷ xs) = cond (eqb (number_of x) (number_of why)) (x ∷ xs) (from why xs)

unfoldable pub any : List Refusal → Bool
any [] = false
any (x ∷ xs) = true

unfoldable pub is_from : List Refusal → List Test → Bool
is_from left [] = true
is_from left (t ∷ ts) = any (from t.gives left) && is_from (from t.gives left) ts

abbrev pub in_order : List Test → Bool
in_order ts = is_from order ts
