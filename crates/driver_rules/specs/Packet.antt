-- A packet that is sent: which lengths are taken, the room that it needs, and its words. Assumes nothing.
use Rattle.std.specs.Prelude.{Bool, ◌||◌, List, ◌∷◌, ℕ, ◌+◌, ◌/◌, length, ltb}
use Rattle.store.specs.Store.{round4}
use Rattle.driver_rules.specs.Talk.{words_of}

-- packet length outside 14 to 1,514
abbrev pub outside : ℕ → Bool
outside n = ltb n 14 || ltb 1514 n

-- TX Free below 4 and the length rounded up to 4
abbrev pub lacks_room : ℕ → ℕ → Bool
lacks_room free n = ltb free (4 + round4 n)

-- Both preamble words with bit 15, the data padded with zeros to 4.
abbrev pub packet_words : List ℕ → List ℕ
packet_words packet = (0x8000 + length packet) ∷ (0 ∷ words_of (round4 (length packet) / 2) packet)
