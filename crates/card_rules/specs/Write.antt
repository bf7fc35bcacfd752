-- The register map: what a write does, window by window. A write covers both bytes of a register, its low byte or its high byte. Assumes nothing.
use Rattle.std.specs.Prelude.{List, [], ◌∷◌, Bool, true, false, cond, ℕ, zero, suc, ◌+◌, ◌*◌, ◌-◌, ◌/◌, ◌%◌, set, ltb, eqb}
use Rattle.bits.specs.Bits.{has, low_byte, high_byte}
use Rattle.store.specs.Store as store
use Rattle.receive_rules.specs.Frame.{Frame}
use Rattle.transmit_rules.specs.Outcome.{pop}
use Rattle.transmit_rules.specs.Tx.{write_data}
use Rattle.card_rules.specs.Adapter.{Adapter}
use Rattle.card_rules.specs.Update.{with_id, with_config, with_prom, with_lines, with_tx, id_address, id_shift, config_resource, config_enabled, config_first, config_second, config_station, lines_low}
use Rattle.card_rules.specs.Room.{tx_room}
use Rattle.card_rules.specs.Power.{reset}
use Rattle.card_rules.specs.Command.{reported, commanded}
use Rattle.card_rules.specs.Eeprom.{prom_command}
use Rattle.card_rules.specs.declared.Lanes.{Lanes}
use Rattle.card_rules.specs.declared.Lanes.TheVariants.{Both, Low, High}
use Rattle.card_rules.specs.Read.{pair_at}

-- a register as a write leaves it, by what was there
abbrev pub mixed : Lanes → ℕ → ℕ → ℕ
mixed Both v old = v
mixed Low v old = low_byte (v % 256) old
mixed High v old = high_byte (v % 256) old

-- whether a write covers the low byte, and the high byte
unfoldable pub covers_low : Lanes → Bool
covers_low Both = true
covers_low Low = true
covers_low High = false

unfoldable pub covers_high : Lanes → Bool
covers_high Both = true
covers_high Low = false
covers_high High = true

-- ---- window 0

-- Configuration Control: bit 2 resets to power-on, else bit 0 is kept.
unfoldable pub controlled : ℕ → Adapter → Adapter
controlled v a = cond (has 4 v) (reset a) (with_config (config_enabled (has 1 v) a.config) a)

-- An EEPROM command executes when its low byte is written.
abbrev pub eeprom : ℕ → Adapter → Adapter
eeprom v a = with_prom (prom_command v a.id a.prom).prom (with_id (prom_command v a.id a.prom).id a)

-- what is done with the low byte of a write, if it covers that byte
abbrev pub on_low : Lanes → (ℕ → Adapter → Adapter) → ℕ → Adapter → Adapter
on_low l f v a = cond (covers_low l) (f (v % 256) a) a

unfoldable pub write0 : Lanes → ℕ → ℕ → Adapter → Adapter
write0 l o v a =
    cond (eqb o 0x04) (on_low l controlled v a)
    (cond (eqb o 0x06) (with_id (id_address (mixed l v a.id.address) a.id) a)
    (cond (eqb o 0x08) (with_config (config_resource (mixed l v a.config.resource) a.config) a)
    (cond (eqb o 0x0A) (on_low l eeprom v a)
    (cond (eqb o 0x0C) (with_id (id_shift (mixed l v a.id.shift) a.id) a) a))))

-- ---- window 1

-- TX Status pops on a write that covers offset 0Bh.
abbrev pub pops : Lanes → Adapter → Adapter
pops l a = cond (covers_high l) (reported pop a) a

-- a word of the data port
abbrev pub writing : ℕ → Adapter → Adapter
writing v a = with_tx (write_data (tx_room a) v a.tx) a

unfoldable pub write1 : Lanes → ℕ → ℕ → Adapter → Adapter
write1 l o v a =
    cond (ltb o 0x04) (writing v a)
    (cond (eqb o 0x0A) (pops l a) a)

-- ---- windows 2 and 3

abbrev pub stationed : ℕ → ℕ → List ℕ → List ℕ
stationed o v s = set (set s o (v % 256)) (o + 1) (v / 256)

unfoldable pub write2 : Lanes → ℕ → ℕ → Adapter → Adapter
write2 l o v a = cond (ltb o 0x06) (with_config (config_station (stationed o (mixed l v (pair_at o a.config.station)) a.config.station) a.config) a) a

-- "In use" is: a frame stored or coming, a packet or part of one written.
unfoldable pub in_use : List Frame → List store.Frame → ℕ → Bool
in_use [] [] zero = false
in_use [] [] (suc k) = true
in_use [] (p ∷ ps) k = true
in_use (f ∷ fs) ps k = true

-- A split written with a FIFO in use does nothing; the other bits change.
unfoldable pub resplit : ℕ → Adapter → Adapter
resplit v a =
    with_config (config_second
    (cond (in_use a.rx.frames a.tx.queue.packets a.tx.queue.part.words) (v / 4 * 4 + a.config.second % 4) v) a.config) a

unfoldable pub write3 : Lanes → ℕ → ℕ → Adapter → Adapter
write3 l o v a =
    cond (eqb o 0x00) (with_config (config_first (mixed l v a.config.first) a.config) a)
    (cond (eqb o 0x02) (resplit (mixed l v a.config.second) a) a)

-- ---- all windows

-- Registers of unbuilt parts ignore writes, and so do windows 4 to 7.
unfoldable pub write : Lanes → ℕ → ℕ → Adapter → Adapter
write l o v a =
    cond (eqb a.select.window 0) (write0 l o v a)
    (cond (eqb a.select.window 1) (write1 l o v a)
    (cond (eqb a.select.window 2) (write2 l o v a)
    (cond (eqb a.select.window 3) (write3 l o v a) a)))

unfoldable pub write_word : ℕ → ℕ → Adapter → Adapter
write_word o v a = cond (eqb o 0x0E) (commanded v a) (write Both o v a)

-- The write of a command's high byte executes it with the low byte held; the held byte is 0 again after use.
abbrev pub executed : ℕ → Adapter → Adapter
executed v a = commanded (v * 256 + a.lines.low) (with_lines (lines_low 0 a.lines) a)

-- The low byte of a command is held, and the write of 0Fh executes.
unfoldable pub write_byte : ℕ → ℕ → Adapter → Adapter
write_byte o v a =
    cond (eqb o 0x0E) (with_lines (lines_low v a.lines) a)
    (cond (eqb o 0x0F) (executed v a)
    (cond (eqb (o % 2) 0) (write Low o v a) (write High (o - 1) v a)))
