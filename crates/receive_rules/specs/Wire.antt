-- The wire: a start with the first 8 bytes, then single bytes, then an end with two flags. Assumes nothing.
use Rattle.std.specs.Prelude.{List, [], ◌∷◌, ◌++◌, Bool, true, false, cond, not, ◌&&◌, ◌||◌, ℕ, ◌+◌, length, get_or, replicate, ltb, leb, eqb}
use Rattle.bits.specs.Bits.{has}
use Rattle.store.specs.Store.{at_newest}
use Rattle.receive_rules.specs.Frame.{State, coming, whole, damaged, Frame, Rx, overran, room}
use Rattle.receive_rules.specs.Update.{with_wire, with_receiver, with_frames}

-- ---- the filter

-- The first six bytes are an address.
abbrev pub address : List ℕ → List ℕ → Bool
address a first =
    eqb (get_or first 0 0) (get_or a 0 0) && eqb (get_or first 1 0) (get_or a 1 0) && eqb (get_or first 2 0) (get_or a 2 0)
    && eqb (get_or first 3 0) (get_or a 3 0) && eqb (get_or first 4 0) (get_or a 4 0) && eqb (get_or first 5 0) (get_or a 5 0)

-- Broadcast: six FFh.
abbrev pub everyone : List ℕ
everyone = replicate 6 255

-- The filter's bits: 1 the station's own address, 2 a group (the low bit of the first byte), 4 broadcast, 8 all.
unfoldable pub passes : ℕ → List ℕ → List ℕ → Bool
passes filter station first =
    has 8 filter
    || has 4 filter && address everyone first
    || has 2 filter && has 1 (get_or first 0 0)
    || has 1 filter && address station first

-- ---- the start

abbrev pub fresh : List ℕ → Frame
fresh first = record { bytes = first; state = coming false }

unfoldable pub begins : Bool → List ℕ → Rx → Rx
begins true first x = record { receiver = with_wire 2 x.receiver; frames = x.frames ++ (fresh first ∷ []) }
begins false first x = with_receiver (with_wire 1 x.receiver) x

-- 8 bytes fit in `size`
abbrev pub fits8 : ℕ → List Frame → Bool
fits8 size fs = leb (room fs + 8) size

-- A frame is ignored to its end if at its start the card is inactive or its filter rejects it (`taken` is false), the receiver is off, or 8 bytes don't fit.
unfoldable pub wire_start : ℕ → Bool → List ℕ → Rx → Rx
wire_start size taken first x = begins (taken && (x.receiver.on && fits8 size x.frames)) first x

-- ---- a byte

abbrev pub longer : ℕ → Frame → Frame
longer b f = record { bytes = f.bytes ++ (b ∷ []); state = f.state }

-- there is room for one byte more of the newest frame
abbrev pub fits : ℕ → ℕ → List Frame → Bool
fits size b fs = leb (room (at_newest (longer b) fs)) size

-- Bytes past 1,792 are dropped.
abbrev pub full : Frame → Bool
full f = leb 1792 (length f.bytes)

-- a frame that is coming is marked overrun, or stays as it was
unfoldable pub marked : Bool → State → State
marked m (coming o) = coming (o || m)
marked m whole = whole
marked m (damaged k) = damaged k

-- A byte without room marks the frame overrun; it and later bytes are dropped.
abbrev pub takes : ℕ → Bool → Frame → Frame
takes b space f =
    record {
      bytes = cond (overran f.state || (full f || not space)) f.bytes (f.bytes ++ (b ∷ []));
      state = marked (not (full f) && not space) f.state;
    }

unfoldable pub wire_byte : ℕ → ℕ → Rx → Rx
wire_byte size b x =
    with_frames (cond (eqb x.receiver.wire 2) (at_newest (takes b (fits size b x.frames)) x.frames) x.frames) x

-- ---- the end

-- Codes, first that holds wins: 0 overrun, 1 longer than 1,514, 3 shorter than 60, 4 alignment, 5 check.
unfoldable pub ending : Bool → ℕ → Bool → Bool → State
ending overrun n check alignment =
    cond overrun (damaged 0)
    (cond (ltb 1514 n) (damaged 1)
    (cond (ltb n 60) (damaged 3)
    (cond alignment (cond check whole (damaged 5)) (damaged 4))))

abbrev pub end_of : Bool → Bool → Frame → State
end_of check alignment f = ending (overran f.state) (length f.bytes) check alignment

abbrev pub ends : Bool → Bool → Frame → Frame
ends check alignment f = record { bytes = f.bytes; state = end_of check alignment f }

unfoldable pub wire_end : Bool → Bool → Rx → Rx
wire_end check alignment x =
    record {
      receiver = with_wire 0 x.receiver;
      frames = cond (eqb x.receiver.wire 2) (at_newest (ends check alignment) x.frames) x.frames;
    }
