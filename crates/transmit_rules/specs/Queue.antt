-- The transmit FIFO as a reader sees it: the packets, oldest first, and the packet being written. Assumes nothing.
use Rattle.std.specs.Prelude.{List, [], ◌∷◌, Bool, false, ℕ, ◌+◌, ◌*◌, ◌-◌, length}
use Rattle.store.specs.Store.{Frame, round4}

-- A packet being written: the words that have come, its first preamble word, and the data bytes so far.
pub record Part : Type 0 where
  pub words : ℕ
  pub preamble : ℕ
  pub bytes : List ℕ

abbrev pub no_part : Part
no_part = record { words = 0; preamble = 0; bytes = [] }

-- A whole packet is a `Frame`: bits 15 to 11 of its first preamble word, and its bytes without the pad.
-- `failed`: a transmit failure stands.
pub record Queue : Type 0 where
  pub failed : Bool
  pub packets : List Frame
  pub part : Part

abbrev pub empty : Queue
empty = record { failed = false; packets = []; part = no_part }

-- A packet takes 4 for its preamble and its length rounded up to 4; one being written takes 2 a word.
unfoldable pub room : List Frame → ℕ
room [] = 0
room (p ∷ ps) = 4 + round4 (length p.bytes) + room ps

-- TX Free, of `size` bytes
unfoldable pub free : ℕ → Queue → ℕ
free size q = size - (room q.packets + 2 * q.part.words)
