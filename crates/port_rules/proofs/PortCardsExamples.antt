-- Worked numbers of document 01, computed from the definitions. Assumes nothing.
use mathlib.Core.Path.{◌≡◌, refl}
use mathlib.Core.Bool.{true, false}
use mathlib.Core.List.{[], ◌∷◌}
use Rattle.port_rules.specs.Card.{moved, loaded, id_fresh, id_drives, id_bit}
use Rattle.port_rules.specs.Sound.{id_sound}
use Rattle.port_rules.specs.Gathered.{port_bit, all_sound}

-- an undriven bus bit reads 1
undriven : port_bit 1 [] ≡ 1
unfolding port_bit
undriven = refl

-- at port 110h one card drives a 1, another a 0, which wins
driven : port_bit 1 (loaded 0x8000 (moved true 1 0 (id_fresh [])) ∷ moved true 1 0 (id_fresh []) ∷ []) ≡ 0
unfolding port_bit id_bit id_drives
driven = refl

-- a card in ID_CMD has a port
unsound : all_sound (id_fresh [] ∷ moved true 16 0 (id_fresh []) ∷ []) ≡ false
unfolding all_sound id_sound
unsound = refl
