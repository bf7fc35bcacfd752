-- What the wire brings: the good frames that arrive. Assumes nothing.
use Rattle.std.specs.Prelude.{Bool, true, false, cond, ◌&&◌, List, [], ◌∷◌, ◌++◌, ℕ, length, leb, eqb}
use Rattle.receive_rules.specs.Frame.{State, coming, whole, damaged, Frame}
use Rattle.receive_rules.specs.Wire.{end_of}
use Rattle.card_rules.specs.Calls.{off_wire}
use Rattle.runs.specs.Run.{Bench, Event, Start, Byte, End, Sent, Collided, Open, Send, Service, wire, next}

-- the stored frames, oldest first
abbrev pub stored : Bench → List Frame
stored b = b.adapter.rx.frames

-- the good ones: whole, with 60 to 1,514 bytes
unfoldable pub if_good : State → List ℕ → List (List ℕ)
if_good (coming o) bytes = []
if_good whole bytes = cond (leb 60 (length bytes) && leb (length bytes) 1514) (bytes ∷ []) []
if_good (damaged k) bytes = []

unfoldable pub good : List Frame → List (List ℕ)
good [] = []
good (f ∷ fs) = if_good f.state f.bytes ++ good fs

-- What is heard of the frame on the wire: its first 8 bytes at its start, then each byte. At the outset it is what is stored of it.
unfoldable pub newest : List Frame → List ℕ
newest [] = []
newest (f ∷ []) = f.bytes
newest (f ∷ g ∷ fs) = newest (g ∷ fs)

unfoldable pub hears : Event → List ℕ → Bench → List ℕ
hears (Start first eight) heard b = cond (off_wire (wire b)) first heard
hears (Byte v) heard b = heard ++ (v ∷ [])
hears (End check alignment) heard b = heard
hears Sent heard b = heard
hears Collided heard b = heard
hears (Open w₀ w₁ w₂) heard b = heard
hears (Send packet) heard b = heard
hears (Service budget s) heard b = heard

-- the end of the newest frame gives no code
unfoldable pub is_whole : State → Bool
is_whole (coming o) = false
is_whole whole = true
is_whole (damaged k) = false

unfoldable pub no_code : Bool → Bool → List Frame → Bool
no_code check alignment [] = false
no_code check alignment (f ∷ []) = is_whole (end_of check alignment f)
no_code check alignment (f ∷ g ∷ fs) = no_code check alignment (g ∷ fs)

-- A good frame arrives at the end of one that the card stores, if that gives no code: all that was heard of it.
unfoldable pub arrives : Event → List ℕ → Bench → List (List ℕ)
arrives (Start first eight) heard b = []
arrives (Byte v) heard b = []
arrives (End check alignment) heard b = cond (eqb (wire b) 2 && no_code check alignment (stored b)) (heard ∷ []) []
arrives Sent heard b = []
arrives Collided heard b = []
arrives (Open w₀ w₁ w₂) heard b = []
arrives (Send packet) heard b = []
arrives (Service budget s) heard b = []

unfoldable pub arrived : List Event → List ℕ → Bench → List (List ℕ)
arrived [] heard b = []
arrived (e ∷ es) heard b = arrives e heard b ++ arrived es (hears e heard b) (next e b)
