-- The EEPROM commands of the manual's table: a 2-bit op code and a 6-bit address. They finish at once. Assumes nothing.
use Rattle.std.specs.Prelude.{map, Bool, true, false, cond, ℕ, ◌/◌, ◌%◌, get_or, set, replicate, eqb}
use Rattle.std.specs.Int.Bits.{bit_and}
use Rattle.port_rules.specs.declared.IdState.{IdState}
use Rattle.card_rules.specs.declared.Prom.{Prom}
use Rattle.card_rules.specs.Update.{id_shift, id_words}
use Rattle.card_rules.specs.declared.Setup.{Setup}

-- The command's byte is kept to be read back; v is its byte, w whether erasing and writing is enabled after it.
abbrev pub leaving : ℕ → Bool → IdState → Setup
leaving v w i = record { id = i; prom = record { last = v; writable = w } }

-- Read Register: the word comes into the EEPROM Data register.
abbrev pub read_word : ℕ → IdState → IdState
read_word n i = id_shift (get_or i.words n 0) i

-- The Write commands write only zeros: the word and the data.
abbrev pub write_word : ℕ → IdState → IdState
write_word n i = id_words (set i.words n (bit_and (get_or i.words n 0) i.shift)) i

abbrev pub write_all : IdState → IdState
write_all i = id_words (map (λ w. bit_and w i.shift) i.words) i

-- The Erase commands write all ones.
abbrev pub erase_word : ℕ → IdState → IdState
erase_word n i = id_words (set i.words n 65535) i

abbrev pub erase_all : IdState → IdState
erase_all i = id_words (replicate 64 65535) i

-- An erase or write acts only while enabled, and disables again.
abbrev pub if_enabled : Bool → IdState → IdState → IdState
if_enabled true after before = after
if_enabled false after before = before

-- Op code 00: bits 5-4 of the address tell which.
unfoldable pub whole : ℕ → IdState → Prom → Setup
whole v i p =
    cond (eqb (v % 64 / 16) 3) (leaving v true i)
    (cond (eqb (v % 64 / 16) 2) (leaving v false (if_enabled p.writable (erase_all i) i))
    (cond (eqb (v % 64 / 16) 1) (leaving v false (if_enabled p.writable (write_all i) i))
    (leaving v false i)))

unfoldable pub prom_command : ℕ → IdState → Prom → Setup
prom_command v i p =
    cond (eqb (v / 64) 2) (leaving v p.writable (read_word (v % 64) i))
    (cond (eqb (v / 64) 1) (leaving v false (if_enabled p.writable (write_word (v % 64) i) i))
    (cond (eqb (v / 64) 3) (leaving v false (if_enabled p.writable (erase_word (v % 64) i) i))
    (whole v i p)))
