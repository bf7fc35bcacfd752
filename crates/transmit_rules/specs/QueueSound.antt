-- What holds of the transmit FIFO between steps. Assumes nothing.
use Rattle.std.specs.Prelude.{List, [], ◌∷◌, Bool, true, ◌&&◌, ◌||◌, ℕ, ◌+◌, ◌*◌, ◌-◌, length, ltb, leb, eqb}
use Rattle.store.specs.Store.{Frame, len_of, round4}
use Rattle.transmit_rules.specs.Queue.{Part, Queue, room}
use Rattle.transmit_rules.specs.Write.{sized}

unfoldable pub all_sized : List Frame → Bool
all_sized [] = true
all_sized (p ∷ ps) = sized (length p.bytes) && all_sized ps

-- A packet being written has the bytes of its words, a good length, and is not whole yet.
abbrev pub growing : Part → Bool
growing p =
    eqb (length p.bytes) (2 * (p.words - 2))
    && (eqb p.words 0 || sized (len_of p.preamble) && ltb (2 * p.words) (4 + round4 (len_of p.preamble)))

-- All that is written fits in `size`.
abbrev pub orderly : ℕ → Queue → Bool
orderly size q = leb (room q.packets + 2 * q.part.words) size && all_sized q.packets && growing q.part
