-- The search card by card: the address with which each card takes part, what the bus carries in each round, and what the rounds make of one card. A port is its x in 1x0h.
-- Assumes nothing.
use Rattle.std.specs.Prelude.{ℕ, zero, suc, min, ◌+◌, ◌-◌, ◌*◌, ◌/◌, ◌%◌, ◌<◌, Bool, cond, not, ◌&&◌, List, [], ◌∷◌, map, eqb, ltb}
use Rattle.port_rules.specs.declared.IdState.{IdState}
use Rattle.port_rules.specs.Card.{id_write}
use Rattle.port_rules.specs.Search.{id_bytes, all_ones}
use Rattle.found.specs.Theorems.{word_at, station}
use Rattle.found.specs.OneCard.{wrote, heard}

-- Two zeros, sequence.
unfoldable pub called_up : ℕ → IdState → IdState
called_up p s = wrote p (0 ∷ 0 ∷ id_bytes 0 255) s

-- For words 00h, 01h, 02h a read command and 16 reads, in which the bus carries the address a.
unfoldable pub hears : ℕ → ℕ → IdState → IdState
hears p a s =
    heard p 16 (a % 65536) (id_write
    (heard p 16 (a / 65536 % 65536) (id_write
    (heard p 16 (a / 65536 / 65536 % 65536) (id_write s p 0x80)) p 0x81)) p 0x82)

-- A card in ID_CMD at another port takes no part: it leaves the bus its ones.
abbrev pub away : ℕ → IdState → Bool
away p s = s.command && not (eqb p s.port)

abbrev pub takes_part : ℕ → IdState → ℕ
takes_part p s = cond (away p s) all_ones (station s)

-- The words are 16 bits wide, as their type says.
abbrev pub Worded : IdState → Type 0
Worded s = (word_at 0 s < 65536) × (word_at 1 s < 65536) × (word_at 2 s < 65536)

-- The bus carries the least address; ones where no card takes part.
unfoldable pub least : List ℕ → ℕ
least [] = all_ones
least (a ∷ xs) = min a (least xs)

-- A card that is tagged takes part no more.
unfoldable pub struck : ℕ → List ℕ → List ℕ
struck a xs = map (λ x. cond (eqb x a) all_ones x) xs

-- Forty-eight ones end it; otherwise the survivor is tagged, and the same search runs with one tag fewer.
unfoldable pub found : ℕ → List ℕ → List ℕ
found zero xs = []
found (suc free) xs = cond (eqb (least xs) all_ones) [] (least xs ∷ found free (struck (least xs) xs))

-- the accesses of the rounds, with n found and so many tags free at first
abbrev pub rounds_cost : ℕ → ℕ → ℕ
rounds_cost n free = 309 * n + cond (ltb n free) 308 0

-- What the rounds make of one card, where the bus carries the addresses xs, and then ones.
unfoldable pub through : ℕ → ℕ → List ℕ → IdState → IdState
through p zero xs s = s
through p (suc free) [] s = hears p all_ones (called_up p s)
through p (suc free) (a ∷ xs) s = through p free xs (id_write (hears p a (called_up p s)) p (0xD0 + (7 - free)))

-- The search: two zeros, sequence, D0h; then the rounds, with seven tags.
unfoldable pub searched_by : ℕ → List ℕ → IdState → IdState
searched_by p xs s = through p 7 xs (id_write (called_up p s) p 0xD0)

-- Activation: two zeros, sequence, and the two commands.
abbrev pub activated_by : ℕ → ℕ → ℕ → IdState → IdState
activated_by p a b s = id_write (id_write (called_up p s) p a) p b
