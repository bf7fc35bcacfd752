-- Worked figures, computed. Assumes nothing.
use Rattle.std.specs.Prelude.{Result, Err}
use mathlib.Core.Path.{◌≡◌, refl}
use mathlib.Core.Bool.{Bool, true, false}
use mathlib.Core.List.{[], ◌∷◌}
use Prim.Native.Nat.{ℕ}
use lib.ListN.{replicate}
use Rattle.refusal.specs.declared.Refusal.{Refusal}
use Rattle.refusal.specs.declared.Refusal.TheVariants.{NeverOpened, LengthOutside, SixteenUnreported, CardUnfit, NoRoom}
use Rattle.card_rules.specs.Access.{ReadWord}
use Rattle.driver_rules.specs.declared.Driver.{Driver}
use Rattle.driver_rules.proofs.TalkExamples.{made, answer}
use Rattle.driver_rules.specs.Talk.{write_words}
use Rattle.driver_rules.specs.Send.{send_talk}

driver : Driver
driver = record { opened = true; sent = 7; unreported = 3; error = false }

-- TX Free is 32: 29 bytes are refused 4, with two reads and nothing written.
refused_29 : made (send_talk driver (replicate 29 0)) (0x2000 ∷ (32 ∷ [])) ≡ ReadWord 14 ∷ (ReadWord 12 ∷ [])
unfolding made send_talk write_words driver
refused_29 = refl

-- ---- which refusal is given where several hold: 13, 2, 3, then 5, then 4

-- what the answer to n bytes is, with so many unreported, where Status is `status` and TX Free is 0
answered : Bool → ℕ → ℕ → ℕ → Result ℕ Refusal
answered opened unreported n status =
    (answer (send_talk (record { opened = opened; sent = 20; unreported = unreported; error = false }) (replicate n 0)) (status ∷ [])).answer

thirteen : answered false 16 13 0x4000 ≡ Err NeverOpened
unfolding answered answer send_talk
thirteen = refl

two : answered true 16 13 0x4000 ≡ Err LengthOutside
unfolding answered answer send_talk
two = refl

three : answered true 16 14 0x4000 ≡ Err SixteenUnreported
unfolding answered answer send_talk
three = refl

five : answered true 15 14 0x4000 ≡ Err CardUnfit
unfolding answered answer send_talk
five = refl

four : answered true 15 14 0x2000 ≡ Err NoRoom
unfolding answered answer send_talk
four = refl
