-- The part of the two areas that is handed up. Assumes nothing.
use Rattle.std.specs.Prelude.{◌≡◌, Bool, true, false, cond, List, [], ℕ, length, take, leb}
use Rattle.std.specs.Borrow.{Bor}
use Rattle.driver_rules.specs.Areas.{is_short}

abbrev pub pick : {A : Type 0} → Bool → A → A → A
pick true a b = a
pick false a b = b

-- Up to 256 bytes lie in the lookahead area, more in the frame area.
abbrev pub area : {A : Type 0} → ℕ → A → A → A
area n look frame = pick (is_short n) look frame

-- the first n bytes of an area, or none if it does not hold n
abbrev pub front : ℕ → List ℕ → List ℕ
front n bytes = cond (leb n (length bytes)) (take n bytes) []

abbrev pub handed : List ℕ → List ℕ → ℕ → List ℕ
handed look frame n = front n (area n look frame)

-- The contract of `hand_up`: the part's bytes, and its place.
abbrev pub HandsUp : Bor (List ℕ) → Bor (List ℕ) → ℕ → Bor (List ℕ) → Type 0
HandsUp look frame n r = (r.now ≡ handed look.now frame.now n) × (r.ref_ptr ≡ area n look.ref_ptr frame.ref_ptr)
