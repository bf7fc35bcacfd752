-- Worked numbers of document 01 and of the manual's ISA Activation chapter, computed from the definitions. Assumes nothing.
use mathlib.Core.Path.{◌≡◌, refl}
use mathlib.Core.Bool.{true, false}
use mathlib.Core.List.{List, [], ◌∷◌}
use Prim.Native.Nat.{ℕ, zero, suc}
use Rattle.port_rules.specs.declared.IdState.{IdState}
use Rattle.port_rules.specs.Sequence.{id_next, id_byte}
use Rattle.port_rules.specs.Card.{moved, tagged, loaded, id_fresh, expected, id_wait, id_command, id_write, id_drives, id_bit, id_after_read}

-- ---- the sequence

-- n bytes, from b on
bytes : ℕ → ℕ → List ℕ
bytes zero b = []
bytes (suc n) b = b ∷ bytes n (id_next b)

starts : bytes 8 0xFF ≡ 0xFF ∷ 0x31 ∷ 0x62 ∷ 0xC4 ∷ 0x47 ∷ 0x8E ∷ 0xD3 ∷ 0x69 ∷ []
unfolding bytes id_next
starts = refl

-- ---- a card at port 110h

-- in ID_WAIT, after a zero there; word 08h is 0030h
listening : IdState
listening = moved false 1 0 (id_fresh (0x0200 ∷ 0 ∷ 1 ∷ 0 ∷ 0 ∷ 0 ∷ 0 ∷ 0 ∷ 0x0030 ∷ []))

-- in ID_CMD
obedient : IdState
unfolding listening
obedient = moved true 1 0 listening

-- FFh is the first byte, 31h the second. A wrong byte, FFh too, restarts the wait for FFh and isn't itself counted.
counted : (id_write (id_write listening 1 0xFF) 1 0x31).at ≡ 2
unfolding listening id_write id_wait expected id_byte id_next
counted = refl

not-counted : (id_write (id_write listening 1 0xFF) 1 0xFF).at ≡ 0
unfolding listening id_write id_wait expected id_byte id_next
not-counted = refl

-- entering ID_WAIT forgets the port
forgotten : (id_write obedient 1 0).port ≡ 16
unfolding listening obedient id_write id_command
forgotten = refl

-- C0h: a reset, which is then due
reset : (id_write obedient 1 0xC0).due ≡ true
unfolding listening obedient id_write id_command
reset = refl

-- E5h: base number 5, in the low five bits of the Address Configuration register
base_5 : (id_write obedient 1 0xE5).address ≡ 0x0025
unfolding listening obedient id_write id_command
base_5 = refl

-- FFh: the preconfigured base
preconfigured : (id_write obedient 1 0xFF).address ≡ 0x0030
unfolding listening obedient id_write id_command
preconfigured = refl

-- ---- a read

-- An untagged card drives bit 15 of its data register, a tagged one nothing.
untagged : id_drives obedient 1 ≡ true
unfolding listening obedient id_drives
untagged = refl

silent : id_drives (tagged 3 obedient) 1 ≡ false
unfolding listening obedient id_drives
silent = refl

-- 8001h drives a 1; if the bus carries it, the register is 0002h after
shifted : (id_after_read (loaded 0x8001 obedient) 1 1).shift ≡ 0x0002
unfolding listening obedient id_after_read id_drives id_bit
shifted = refl

-- if the bus carries a 0, the card has lost and returns to ID_WAIT
lost : (id_after_read (loaded 0x8001 obedient) 1 0).command ≡ false
unfolding listening obedient id_after_read id_drives id_bit
lost = refl
