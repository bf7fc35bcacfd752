-- What the host reads of the receive side, and the commands that drop frames. Assumes nothing.
use Rattle.std.specs.Prelude.{List, [], ◌∷◌, Bool, true, false, cond, not, ◌||◌, ℕ, ◌+◌, ◌*◌, ◌-◌, length, get_or, eqb, ℤ, pos, ◌+ℤ◌}
use Rattle.std.specs.Int.Signed.{lt_z}
use Rattle.store.specs.Store.{round4}
use Rattle.receive_rules.specs.Count.{unread, encoded}
use Rattle.receive_rules.specs.Frame.{State, coming, whole, damaged, Frame, Rx, is_coming, room}
use Rattle.receive_rules.specs.Update.{with_failed, with_read, with_receiver}

-- ---- RX Status

-- Bit 15 incomplete, bit 14 error, bits 13-11 code; 14-11 are 0 until the end.
unfoldable pub marks : State → ℕ
marks (coming o) = 32768
marks whole = 0
marks (damaged k) = 16384 + k * 2048

-- The unread bytes of the oldest frame. Empty store: 0.
abbrev pub unread_in : ℕ → List Frame → ℤ
unread_in read [] = pos 0
unread_in read (f ∷ fs) = unread (length f.bytes) read

-- RX Status shows the oldest frame. Empty store: 8000h.
unfoldable pub rx_status : ℕ → List Frame → ℕ
rx_status read [] = 32768
rx_status read (f ∷ fs) = marks f.state + encoded (unread_in read (f ∷ fs))

-- RX Complete stands while the oldest frame is complete.
unfoldable pub complete : List Frame → Bool
complete [] = false
complete (f ∷ fs) = not (is_coming f.state)

-- RX Free: the room that no stored frame takes.
abbrev pub rx_free : ℕ → List Frame → ℕ
rx_free size fs = size - room fs

-- ---- the data read

-- The bytes that may be read of the oldest frame: those that have come; of an ended frame the pad too.
unfoldable pub readable : List Frame → ℕ
readable [] = 0
readable (f ∷ fs) = cond (is_coming f.state) (length f.bytes) (round4 (length f.bytes))

unfoldable pub oldest : List Frame → List ℕ
oldest [] = []
oldest (f ∷ fs) = f.bytes

-- The pad of the oldest frame, up to a length rounded to 4; none until its end.
abbrev pub pad_in : List Frame → ℕ
pad_in [] = 0
pad_in (f ∷ fs) = cond (is_coming f.state) 0 (round4 (length f.bytes) - length f.bytes)

-- The bytes left to read: the unread ones and the pad.
abbrev pub left_in : Rx → ℤ
left_in x = unread_in x.receiver.read x.frames +ℤ pos (pad_in x.frames)

-- A data read with fewer than two bytes left is a receive failure.
abbrev pub beyond : Rx → Bool
beyond x = lt_z (left_in x) (pos 2)

-- A data read takes a word, low byte first; pad reads 0. While a failure stands reads give 0.
unfoldable pub data_word : Rx → ℕ
data_word x =
    cond (x.receiver.failed || beyond x) 0
    (get_or (oldest x.frames) x.receiver.read 0 + 256 * get_or (oldest x.frames) (x.receiver.read + 1) 0)

-- .. and move nothing.
unfoldable pub after_read : Rx → Rx
after_read x =
    with_receiver
    (cond x.receiver.failed x.receiver
    (cond (beyond x) (with_failed true x.receiver) (with_read (x.receiver.read + 2) x.receiver))) x

-- ---- RX Discard and RX Reset

-- The oldest frame leaves, and its room returns; of an unfinished one the rest is ignored too. On an empty store it does nothing.
unfoldable pub without_oldest : Rx → List Frame → Rx
without_oldest x [] = x
without_oldest x (f ∷ fs) =
    record {
      receiver =
          record {
            on = x.receiver.on;
            failed = x.receiver.failed;
            early = false;
            told = false;
            threshold = x.receiver.threshold;
            read = 0;
            wire = cond (is_coming f.state) 1 x.receiver.wire;
          };
      frames = fs;
    }

-- RX Discard does nothing while a receive failure stands.
unfoldable pub discard : Rx → Rx
discard x = cond x.receiver.failed x (without_oldest x x.frames)

-- the rest of a begun frame is ignored
abbrev pub deafened : ℕ → ℕ
deafened wire = cond (eqb wire 2) 1 wire

-- the power-on threshold of RX Early
abbrev pub early_default : ℕ
early_default = 2044

-- .. and the least that is stored: a start brings as many bytes
abbrev pub early_least : ℕ
early_least = 8

-- The empty receive side: the receiver is off, and nothing is stored. `wire` is what the wire is doing.
abbrev pub rx_empty : ℕ → Rx
rx_empty wire =
    record {
      receiver = record { on = false; failed = false; early = false; told = false; threshold = early_default; read = 0; wire = wire };
      frames = [];
    }

-- RX Reset drops everything, ignores the rest of a begun frame, turns the receiver off and restores RX Early. (The filter is the card's.)
unfoldable pub rx_reset : Rx → Rx
rx_reset x = rx_empty (deafened x.receiver.wire)
