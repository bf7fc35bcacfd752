-- What the wire and the card's memory can hold, and the bytes of a frame among other events. Assumes nothing.
use Rattle.std.specs.Prelude.{Bool, true, false, ◌&&◌, List, [], ◌∷◌, ℕ, ltb}
use Rattle.receive_rules.specs.Frame.{State, coming, whole, damaged, Frame}
use Rattle.runs.specs.Run.{Event, Start, Byte, End, Sent, Collided, Open, Send, Service}

-- every value is a byte
unfoldable pub octets : List ℕ → Bool
octets [] = true
octets (v ∷ vs) = ltb v 256 && octets vs

-- every word has 16 bits
unfoldable pub dir_words : List ℕ → Bool
dir_words [] = true
dir_words (w ∷ ws) = ltb w 65536 && dir_words ws

-- a code has three bits
unfoldable pub code_fits : State → Bool
code_fits (coming o) = true
code_fits whole = true
code_fits (damaged k) = ltb k 8

-- the bytes and the codes of stored frames are such
unfoldable pub holdable : List Frame → Bool
holdable [] = true
holdable (f ∷ fs) = octets f.bytes && (code_fits f.state && holdable fs)

-- the wire brings bytes
unfoldable pub octets_of : Event → Bool
octets_of (Start first eight) = octets first
octets_of (Byte v) = ltb v 256
octets_of (End check alignment) = true
octets_of Sent = true
octets_of Collided = true
octets_of (Open w₀ w₁ w₂) = true
octets_of (Send packet) = true
octets_of (Service budget s) = true

unfoldable pub wire_octets : List Event → Bool
wire_octets [] = true
wire_octets (e ∷ es) = octets_of e && wire_octets es

-- no start and no end is among these events: bytes of a frame, calls and outcomes
unfoldable pub between : List Event → Bool
between [] = true
between (Start first eight ∷ es) = false
between (Byte v ∷ es) = between es
between (End check alignment ∷ es) = false
between (Sent ∷ es) = between es
between (Collided ∷ es) = between es
between (Open w₀ w₁ w₂ ∷ es) = between es
between (Send packet ∷ es) = between es
between (Service budget s ∷ es) = between es

-- their bytes
unfoldable pub bytes_in : List Event → List ℕ
bytes_in [] = []
bytes_in (Start first eight ∷ es) = bytes_in es
bytes_in (Byte v ∷ es) = v ∷ bytes_in es
bytes_in (End check alignment ∷ es) = bytes_in es
bytes_in (Sent ∷ es) = bytes_in es
bytes_in (Collided ∷ es) = bytes_in es
bytes_in (Open w₀ w₁ w₂ ∷ es) = bytes_in es
bytes_in (Send packet ∷ es) = bytes_in es
bytes_in (Service budget s ∷ es) = bytes_in es
