-- One card by itself: what bytes written to the port, and bits that the bus carries, make of it. A port is its x in 1x0h.
-- Assumes nothing.
use Rattle.std.specs.Prelude.{ℕ, zero, suc, ◌*◌, ◌/◌, ◌%◌, List, [], ◌∷◌}
use Rattle.port_rules.specs.declared.IdState.{IdState}
use Rattle.port_rules.specs.Card.{id_write, id_after_read}

-- bytes one after the other
unfoldable pub wrote : ℕ → List ℕ → IdState → IdState
wrote p [] s = s
wrote p (x ∷ xs) s = wrote p xs (id_write s p x)

-- a 16-bit register after a shift
abbrev pub shl : ℕ → ℕ
shl w = w * 2 % 65536

-- the upper n bits of the word w, one after the other
unfoldable pub heard : ℕ → ℕ → ℕ → IdState → IdState
heard p zero w s = s
heard p (suc n) w s = heard p n (shl w) (id_after_read s p (w / 32768))
