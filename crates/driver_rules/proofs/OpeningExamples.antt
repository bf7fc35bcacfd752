-- Worked figures, computed for any adapter. Assumes nothing.
use mathlib.Core.Path.{◌≡◌, refl}
use mathlib.Core.List.{[], ◌∷◌, ◌++◌}
use Rattle.card_rules.specs.Adapter.{Adapter}
use Rattle.card_rules.specs.Access.{WriteByte}
use Rattle.driver_rules.specs.Driver.{never_opened}
use Rattle.driver_rules.specs.Talk.{run}
use Rattle.driver_rules.specs.Open.{open_talk, command}

-- The address 00 60 8C 12 34 56: window 2, its six bytes, high byte first, and six commands.
address : (a : Adapter) → (run (open_talk never_opened 0x0060 0x8C12 0x3456) a).made
    ≡ (command 0x0802 ∷ (WriteByte 0 0x00 ∷ (WriteByte 1 0x60 ∷ (WriteByte 2 0x8C ∷ (WriteByte 3 0x12 ∷ (WriteByte 4 0x34 ∷ (WriteByte 5 0x56 ∷ [])))))))
    ++ (command 0x0801 ∷ (command 0x8005 ∷ (command 0x78FF ∷ (command 0x7000 ∷ (command 0x2000 ∷ (command 0x4800 ∷ []))))))
unfolding run open_talk
address a = refl
