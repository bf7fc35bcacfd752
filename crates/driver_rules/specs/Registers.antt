-- The registers and commands that the driver names, from the manual. Assumes nothing.
use Rattle.std.specs.Prelude.{Bool, not, ◌||◌, ℕ, ◌*◌, ◌/◌, eqb, ℤ, pos, negsuc}
use Rattle.std.specs.Int.Signed.{lt_z}
use Rattle.bits.specs.Bits.{has}
use Rattle.receive_rules.specs.Count.{decoded}

-- ---- registers, by their offsets: those of window 1, then Status and command, in all windows

abbrev pub data_port : ℕ
data_port = 0x00

abbrev pub rx_status : ℕ
rx_status = 0x08

abbrev pub tx_status : ℕ
tx_status = 0x0B

abbrev pub tx_free : ℕ
tx_free = 0x0C

abbrev pub status_port : ℕ
status_port = 0x0E

abbrev pub command_port : ℕ
command_port = 0x0E

-- ---- commands: the number in bits 15-11

abbrev pub select_window : ℕ
select_window = 1 * 2048

abbrev pub rx_enable : ℕ
rx_enable = 4 * 2048

abbrev pub rx_discard : ℕ
rx_discard = 8 * 2048

abbrev pub tx_enable : ℕ
tx_enable = 9 * 2048

abbrev pub acknowledge : ℕ
acknowledge = 13 * 2048

abbrev pub interrupt_mask : ℕ
interrupt_mask = 14 * 2048

abbrev pub read_zero : ℕ
read_zero = 15 * 2048

abbrev pub rx_filter : ℕ
rx_filter = 16 * 2048

-- ---- bits of the Status word

-- Adapter Failure, or a window other than 1
abbrev pub unfit : ℕ → Bool
unfit status = not (eqb (status / 8192) 1) || has 2 status

abbrev pub tx_complete : ℕ → Bool
tx_complete status = has 4 status

abbrev pub rx_complete : ℕ → Bool
rx_complete status = has 16 status

-- ---- RX Status

-- unread bytes outside 60 to 1,514
abbrev pub outside_frame : ℤ → Bool
outside_frame n = lt_z n (pos 60) || lt_z (pos 1514) n

-- A damaged frame: bit 14 set, or such a count.
abbrev pub bad : ℕ → Bool
bad rx = has 16384 rx || outside_frame (decoded rx)

-- a count as a length: none below 0
abbrev pub length_of : ℤ → ℕ
length_of (pos n) = n
length_of (negsuc n) = 0

-- The unread bytes that the word tells, as a length.
abbrev pub length_in : ℕ → ℕ
length_in rx = length_of (decoded rx)
