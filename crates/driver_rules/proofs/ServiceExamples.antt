-- Worked figures, computed. Assumes nothing.
use mathlib.Core.Path.{◌≡◌, refl}
use mathlib.Core.Bool.{true, false}
use mathlib.Core.List.{[], ◌∷◌}
use Rattle.card_rules.specs.Access.{ReadWord, ReadByte, WriteWord, WriteByte}
use Rattle.driver_rules.specs.declared.Driver.{Driver}
use Rattle.driver_rules.proofs.TalkExamples.{made}
use Rattle.driver_rules.specs.Items.{report_talk, idle_talk, fetch_talk}
use Rattle.driver_rules.specs.Service.{look_talk}

driver : Driver
driver = record { opened = true; sent = 7; unreported = 3; error = false }

-- TX Complete, 2004h: TX Status, C0h, the pop, and TX Status again.
reports : made (look_talk 5 driver) (0x2004 ∷ (0xC0 ∷ [])) ≡ ReadWord 14 ∷ (ReadByte 11 ∷ (WriteByte 11 0 ∷ (ReadByte 11 ∷ [])))
unfolding made look_talk report_talk driver
reports = refl

-- RX Complete, 2010h: RX Status. A frame of 60 bytes is not begun with 3 left.
receives : made (look_talk 5 driver) (0x2010 ∷ (60 ∷ [])) ≡ ReadWord 14 ∷ (ReadWord 8 ∷ [])
unfolding made look_talk fetch_talk driver
receives = refl

-- One damaged frame, 683Ch, and idle: the discard, Status again, and the acknowledgement.
looks_again : made (look_talk 5 driver) (0x2010 ∷ (0x683C ∷ (0 ∷ (0x2000 ∷ [])))) ≡ ReadWord 14 ∷ (ReadWord 8 ∷ (WriteWord 14 0x4000 ∷ (ReadWord 14 ∷ (WriteWord 14 0x6869 ∷ []))))
unfolding made look_talk idle_talk driver
looks_again = refl
