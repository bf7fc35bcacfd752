-- What holds of the adapter between steps: the one test that every public call makes. Assumes nothing.
use Rattle.std.specs.Prelude.{Bool, not, ◌&&◌, ◌||◌, ℕ, ◌%◌, leb, eqb}
use Rattle.port_rules.specs.Sound.{id_sound}
use Rattle.receive_rules.specs.Sound as rx
use Rattle.transmit_rules.specs.Tx as tx
use Rattle.card_rules.specs.Adapter.{Adapter}
use Rattle.card_rules.specs.declared.Select.{Select}
use Rattle.card_rules.specs.Room.{tx_room, rx_room}
use Rattle.card_rules.specs.Status.{flags, interrupting}

-- A mask has eight bits, and bit 0 is 0.
abbrev pub is_mask : ℕ → Bool
is_mask m = leb m 254 && eqb (m % 2) 0

-- The registers are in their ranges.
unfoldable pub select_sound : Select → Bool
select_sound s = leb s.window 7 && (is_mask s.mask && (is_mask s.zero && leb s.filter 15))

-- .. and no reset is due.
abbrev pub registers_sound : Adapter → Bool
registers_sound a = id_sound a.id && (not a.id.due && select_sound a.select)

-- What every effect keeps.
abbrev pub kept : Adapter → Bool
kept a = rx.kept (rx_room a) a.rx && (tx.kept (tx_room a) a.tx && registers_sound a)

-- The latch is set if it is due.
abbrev pub latch_settled : Adapter → Bool
latch_settled a = a.lines.latch || not (interrupting a.select (flags a))

abbrev pub sound : Adapter → Bool
sound a = rx.sound (rx_room a) a.rx && (tx.sound (tx_room a) a.tx && (registers_sound a && latch_settled a))
