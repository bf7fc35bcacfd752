-- The paper's number of each refusal.
-- Assumes nothing.
use Rattle.std.specs.Prelude.{ℕ}
use Rattle.refusal.specs.declared.Refusal.{Refusal}
use Rattle.refusal.specs.declared.Refusal.TheVariants.{StateUnsound, LengthOutside, SixteenUnreported, NoRoom, CardUnfit, BudgetShort, AreaShort, MakerWrong, ChecksumWrong, SecondaryWrong, OutOfTurn, ArgumentOutside, NeverOpened, FieldDamaged, FileEndsEarly, NoSuchCard, NoPlace, ListedTwice}

abbrev pub number_of : Refusal → ℕ
number_of StateUnsound = 1
number_of LengthOutside = 2
number_of SixteenUnreported = 3
number_of NoRoom = 4
number_of CardUnfit = 5
number_of BudgetShort = 6
number_of AreaShort = 7
number_of MakerWrong = 8
number_of ChecksumWrong = 9
number_of SecondaryWrong = 10
number_of OutOfTurn = 11
number_of ArgumentOutside = 12
number_of NeverOpened = 13
number_of FieldDamaged = 15
number_of FileEndsEarly = 16
number_of NoSuchCard = 17
number_of NoPlace = 18
number_of ListedTwice = 19
