-- EEPROM commands of the manual's table, computed. Assumes nothing.
use mathlib.Core.Path.{◌≡◌, refl}
use mathlib.Core.Bool.{Bool, true, false}
use Prim.Native.Nat.{ℕ}
use lib.ListN.{get_or, replicate}
use Rattle.port_rules.specs.Card.{id_fresh}
use Rattle.card_rules.specs.Update.{id_shift}
use Rattle.card_rules.specs.declared.Setup.{Setup}
use Rattle.card_rules.specs.Eeprom.{whole, prom_command}

-- an EEPROM whose words are all 00FFh, with 0F0Fh in the EEPROM Data register, after a command; whether erasing and writing is enabled
after : ℕ → Bool → Setup
after v enabled = prom_command v (id_shift 0x0F0F (id_fresh (replicate 64 0x00FF))) (record { last = 0; writable = enabled })

-- word 03h
word : Setup → ℕ
word s = get_or s.id.words 0x03 0

-- 30h enables erasing and writing, 00h disables
enables : (after 0x30 false).prom.writable ≡ true
unfolding after prom_command whole
enables = refl

disables : (after 0x00 true).prom.writable ≡ false
unfolding after prom_command whole
disables = refl

-- Read Register 03h
reads : (after 0x83 false).id.shift ≡ 0x00FF
unfolding after prom_command
reads = refl

-- Write Register 03h writes only zeros: the word and the data
writes : word (after 0x43 true) ≡ 0x000F
unfolding word after prom_command
writes = refl

-- Erase Register 03h writes all ones
erases : word (after 0xC3 true) ≡ 0xFFFF
unfolding word after prom_command
erases = refl

-- .. and only while enabled
not_enabled : word (after 0xC3 false) ≡ 0x00FF
unfolding word after prom_command
not_enabled = refl

-- Write All and Erase All
writes_all : word (after 0x10 true) ≡ 0x000F
unfolding word after prom_command whole
writes_all = refl

erases_all : word (after 0x20 true) ≡ 0xFFFF
unfolding word after prom_command whole
erases_all = refl
