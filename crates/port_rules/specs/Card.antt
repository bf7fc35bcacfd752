-- What one card does at a write to an ID port and at a read of one. A port is its x in 1x0h.
-- Assumes nothing.
use Rattle.std.specs.Prelude.{ℕ, ◌+◌, ◌-◌, ◌*◌, ◌/◌, ◌%◌, Bool, true, false, cond, ◌&&◌, List, ltb, eqb, get_or}
use Rattle.port_rules.specs.declared.IdState.{IdState}
use Rattle.port_rules.specs.Sequence.{id_byte}

-- The state with another standing (ID_CMD or not, port, place in the sequence), tag, data register, or address configuration.
abbrev pub moved : Bool → ℕ → ℕ → IdState → IdState
moved c p a s = record { command = c; port = p; at = a; tag = s.tag; shift = s.shift; address = s.address; active = s.active; due = s.due; words = s.words }

abbrev pub tagged : ℕ → IdState → IdState
tagged t s = record { command = s.command; port = s.port; at = s.at; tag = t; shift = s.shift; address = s.address; active = s.active; due = s.due; words = s.words }

abbrev pub loaded : ℕ → IdState → IdState
loaded d s = record { command = s.command; port = s.port; at = s.at; tag = s.tag; shift = d; address = s.address; active = s.active; due = s.due; words = s.words }

abbrev pub activated : ℕ → IdState → IdState
activated a s = record { command = s.command; port = s.port; at = s.at; tag = s.tag; shift = s.shift; address = a; active = true; due = s.due; words = s.words }

-- Entering ID_WAIT forgets the port.
abbrev pub waiting : IdState → IdState
waiting s = moved false 16 0 s

-- Power-on, or a reset that is then due: ID_WAIT, Address Configuration from word 08h, inactive; the EEPROM stays.
abbrev pub restarted : Bool → List ℕ → IdState
restarted d ws = record { command = false; port = 16; at = 0; tag = 0; shift = 0; address = get_or ws 8 0; active = false; due = d; words = ws }

abbrev pub id_fresh : List ℕ → IdState
id_fresh ws = restarted false ws

-- the byte that a card at place i waits for
unfoldable pub expected : ℕ → ℕ → Bool
expected i x = cond (ltb i 255) (eqb x (id_byte i)) false

-- A byte in ID_WAIT. A zero at any 1x0h makes that the port and restarts the sequence; another byte at another port is ignored.
-- The 255th byte leads to ID_CMD. A wrong byte restarts the wait for FFh and isn't itself counted.
unfoldable pub id_wait : IdState → ℕ → ℕ → IdState
id_wait s p x =
    cond (eqb x 0) (moved s.command p 0 s)
    (cond (eqb p s.port)
    (cond (expected s.at x)
    (cond (eqb s.at 254) (moved true s.port 0 s) (moved s.command s.port (s.at + 1) s))
    (moved s.command s.port 0 s))
    s)

-- the low five bits of the Address Configuration register
abbrev pub based : ℕ → ℕ → ℕ
based a b = a / 32 * 32 + b

-- A byte in ID_CMD, at the card's port:
--   00 to 7F  go to ID_WAIT
--   80 to BF  read EEPROM word n into the EEPROM Data register, at once
--   C0 to CF  global reset
--   D0 to D7  set the tag to n; a tagged card ignores D1 to D7
--   D8 to DF  test: a card whose tag is not n goes to ID_WAIT
--   E0 to FE  activate at that base, and go to ID_WAIT
--   FF        activate at the preconfigured base, and go to ID_WAIT
unfoldable pub id_command : IdState → ℕ → IdState
id_command s x =
    cond (ltb x 0x80) (waiting s)
    (cond (ltb x 0xC0) (loaded (get_or s.words (x - 0x80) 0) s)
    (cond (ltb x 0xD0) (restarted true s.words)
    (cond (ltb x 0xD8) (cond (eqb x 0xD0) (tagged 0 s) (cond (eqb s.tag 0) (tagged (x - 0xD0) s) s))
    (cond (ltb x 0xE0) (cond (eqb (x - 0xD8) s.tag) s (waiting s))
    (cond (eqb x 0xFF) (activated s.address (waiting s))
    (activated (based s.address (x - 0xE0)) (waiting s)))))))

-- A card in ID_CMD ignores other ports.
unfoldable pub id_write : IdState → ℕ → ℕ → IdState
id_write s p x = cond s.command (cond (eqb p s.port) (id_command s x) s) (id_wait s p x)

-- A card in ID_CMD takes part in reads of its port; a tagged one does not.
unfoldable pub id_drives : IdState → ℕ → Bool
id_drives s p = s.command && eqb p s.port && eqb s.tag 0

-- It drives bit 15 of the EEPROM Data register; an undriven bus bit reads 1.
unfoldable pub id_bit : IdState → ℕ → ℕ
id_bit s p = cond (id_drives s p) (s.shift / 0x8000) 1

-- The register is shifted left one bit; a card whose bit is not the bus's returns to ID_WAIT.
unfoldable pub id_after_read : IdState → ℕ → ℕ → IdState
id_after_read s p bus =
    cond (id_drives s p)
    (cond (eqb bus (id_bit s p)) (loaded (s.shift * 2 % 0x10000) s) (waiting (loaded (s.shift * 2 % 0x10000) s)))
    s
