-- The lookahead area and the frame area after a service. Assumes nothing.
use Rattle.std.specs.Prelude.{Bool, cond, List, ◌++◌, ℕ, length, drop, leb}

-- the bytes lie at the front of an area, and no other byte of it changes
abbrev pub laid : List ℕ → List ℕ → List ℕ
laid bytes area = bytes ++ drop (length bytes) area

-- Up to 256 bytes land in the lookahead area, more in the frame area.
abbrev pub is_short : ℕ → Bool
is_short n = leb n 256

unfoldable pub in_look : List ℕ → List ℕ → List ℕ
in_look bytes area = cond (is_short (length bytes)) (laid bytes area) area

unfoldable pub in_frame : List ℕ → List ℕ → List ℕ
in_frame bytes area = cond (is_short (length bytes)) area (laid bytes area)
