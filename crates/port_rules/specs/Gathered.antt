-- What is gathered over the cards on one ID port, and the tests of the calls' arguments. A port is its x in 1x0h.
-- Assumes nothing.
use Rattle.std.specs.Prelude.{ℕ, min, ◌/◌, ◌%◌, Bool, true, ◌&&◌, List, [], ◌∷◌, leb, eqb}
use Rattle.port_rules.specs.declared.IdState.{IdState}
use Rattle.port_rules.specs.Card.{id_bit}
use Rattle.port_rules.specs.Sound.{id_sound}

-- An undriven bus bit reads 1; one driven 0 wins.
unfoldable pub port_bit : ℕ → List IdState → ℕ
port_bit p [] = 1
port_bit p (s ∷ cards) = min (id_bit s p) (port_bit p cards)

-- Every card that is there is sound.
unfoldable pub all_sound : List IdState → Bool
all_sound [] = true
all_sound (s ∷ cards) = id_sound s && all_sound cards

-- The ID port is 1x0h.
abbrev pub is_port : ℕ → Bool
is_port port = eqb (port % 16) 0 && eqb (port / 256) 1

-- The tag is 1 to 7, and the base number not above 31.
unfoldable pub naming : ℕ → ℕ → Bool
naming tag base = leb 1 tag && leb tag 7 && leb base 31

-- x of port 1x0h
abbrev pub digit_of : ℕ → ℕ
digit_of port = port / 16 % 16
