-- Worked figures, computed. Assumes nothing.
use Rattle.std.specs.Prelude.{Ok}
use mathlib.Core.Path.{◌≡◌, refl}
use mathlib.Core.Bool.{Bool, true, false}
use mathlib.Core.List.{[], ◌∷◌, ◌++◌}
use Prim.Native.Nat.{ℕ}
use lib.ListN.{replicate}
use Rattle.card_rules.specs.Access.{ReadByte, WriteWord, WriteByte}
use Rattle.driver_rules.specs.declared.Driver.{Driver}
use Rattle.driver_rules.proofs.TalkExamples.{made, answer}
use Rattle.driver_rules.specs.Talk.{read_words}
use Rattle.driver_rules.specs.declared.Item.TheVariants.{Reported}
use Rattle.driver_rules.specs.Items.{plain, short, is_error, reports, report_talk, fetch_talk}
use Rattle.driver_rules.specs.Areas.{is_short, in_look}

-- ---- the border between the two areas: 256 bytes land in the lookahead area, 257 in the frame area

looked_at : is_short 256 ≡ true
looked_at = refl

framed : is_short 257 ≡ false
framed = refl

-- ---- a report

-- seven packets were sent
driver : ℕ → Bool → Driver
driver unreported error = record { opened = true; sent = 7; unreported = unreported; error = error }

-- Of three unreported packets the oldest, 4, is reported: two are left.
reported_once : reports 0xC0 (driver 3 false) ≡ plain (Ok (Reported 4 0xC0)) (driver 2 false)
unfolding reports driver
reported_once = refl

-- Any of bits 5-2 is an error, as the 04h of the push that fills the stack; bits 7, 6, 1 and 0 are none.
bit_2 : is_error 0xC4 ≡ true
bit_2 = refl

bit_5 : is_error 0x20 ≡ true
bit_5 = refl

no_error : is_error 0xC3 ≡ false
no_error = refl

-- After 16 collisions TX Status shows C8h. With a status left there is no TX Enable, and the error is kept.
status-left : made (report_talk 4 (driver 3 false)) (0xC8 ∷ (0 ∷ (0xC0 ∷ []))) ≡ ReadByte 11 ∷ (WriteByte 11 0 ∷ (ReadByte 11 ∷ []))
unfolding made report_talk driver
status-left = refl

error_kept : answer (report_talk 4 (driver 3 false)) (0xC8 ∷ (0 ∷ (0xC0 ∷ []))) ≡ plain (Ok (Reported 4 0xC8)) (driver 2 true)
unfolding answer report_talk reports driver
error_kept = refl

-- With none left TX Enable comes, 4800h.
none_left : made (report_talk 4 (driver 2 true)) (0xC0 ∷ []) ≡ ReadByte 11 ∷ (WriteByte 11 0 ∷ (ReadByte 11 ∷ (WriteWord 14 0x4800 ∷ [])))
unfolding made report_talk driver
none_left = refl

-- ---- a good frame

-- 60 bytes are 30 words and the discard: with 30 left the frame is not begun.
not-begun : answer (fetch_talk 30 (driver 0 false) 60) [] ≡ short (driver 0 false)
unfolding answer fetch_talk read_words driver
not-begun = refl

-- 61 bytes of 7 lie in the lookahead area: its next byte is as it was.
handed_61 : in_look (answer (fetch_talk 32 (driver 0 false) 61) (replicate 31 0x0707)).bytes (replicate 64 9) ≡ replicate 61 7 ++ replicate 3 9
unfolding answer fetch_talk read_words in_look driver
handed_61 = refl
