-- The transmit FIFO that counts and memory hold. `size` is the transmitter's part of the RAM. Assumes nothing.
use Rattle.std.specs.Prelude.{◌≡◌, List, [], ◌∷◌, ◌++◌, Bool, true, ◌&&◌, ℕ, zero, suc, ◌+◌, ◌*◌, ◌-◌, ◌%◌, ◌≤◌, length, drop, get_or, leb}
use Rattle.store.specs.declared.Area.{Area}
use Rattle.store.specs.Store as store
use Rattle.store.specs.Store.{Frame, room_of, words, part}
use Rattle.transmit_rules.specs.declared.Fifo.{Fifo}
use Rattle.transmit_rules.specs.Queue.{Part, no_part, Queue}
use Rattle.transmit_rules.specs.Write.{sized}
use Rattle.transmit_rules.specs.QueueSound.{orderly}

-- The transmit area: the last `size` bytes of the memory, with 342 words of the directory.
abbrev pub tx_area : ℕ → Area
tx_area size = record { base = 8192 - size; size = size; first = 768; slots = 342 }

abbrev pub packets_of : ℕ → ℕ → List ℕ → List ℕ → List Frame
packets_of size n ram dir = store.view (tx_area size) n ram dir

-- The packet being written: its preamble in the place after the whole packets', its data behind theirs.
abbrev pub growth : ℕ → ℕ → ℕ → List ℕ → List ℕ → Part
growth size n k ram dir =
    record { words = k; preamble = get_or dir (768 + n) 0; bytes = part (8192 - size + room_of (part 768 n dir)) (2 * (k - 2)) ram }

unfoldable pub part_of : ℕ → ℕ → ℕ → List ℕ → List ℕ → Part
part_of size n zero ram dir = no_part
part_of size n (suc k) ram dir = growth size n (suc k) ram dir

abbrev pub queue_of : ℕ → Fifo → List ℕ → List ℕ → Queue
queue_of size f ram dir =
    record { failed = f.failed; packets = packets_of size f.packets ram dir; part = part_of size f.packets f.words ram dir }

-- the packets lie in their area
abbrev pub Packed : ℕ → Fifo → List ℕ → List ℕ → Type 0
Packed size f ram dir = store.Sound (tx_area size) f.packets ram dir

-- the FIFO is sound
pub record Holds (size : ℕ) (f : Fifo) (ram dir : List ℕ) : Type 0 where
  pub small : size ≤ 4096
  pub packed : Packed size f ram dir
  pub calm : orderly size (queue_of size f ram dir) ≡ true

-- the FIFO is q, and nothing outside its area has changed
pub record Turns (size : ℕ) (f : Fifo) (ram dir ram' dir' : List ℕ) (q : Queue) : Type 0 where
  pub holds : queue_of size f ram' dir' ≡ q
  pub packed : Packed size f ram' dir'
  pub ram_kept : store.Kept (8192 - size) size ram ram'
  pub dir_kept : store.Kept 768 342 dir dir'

-- the first n bytes of an area are those told, and the rest is as it was
pub record Tells (n : ℕ) (out out' told : List ℕ) : Type 0 where
  pub count : n ≡ length told
  pub says : out' ≡ told ++ drop n out

-- The test that a call makes of what it is handed.
unfoldable pub sound_fifo : ℕ → Fifo → List ℕ → List ℕ → Bool
sound_fifo size f ram dir =
    leb f.packets 341
    && leb (room_of (part 768 f.packets dir)) size
    && orderly size (queue_of size f ram dir)

-- a good length in every word of a directory
unfoldable pub good_words : List ℕ → Bool
good_words [] = true
good_words (w ∷ ws) = sized (w % 2048) && good_words ws
