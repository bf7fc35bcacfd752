-- What holds of the receive side between steps. Assumes nothing.
use Rattle.std.specs.Prelude.{List, [], ◌∷◌, Bool, cond, not, ◌&&◌, ◌||◌, ℕ, length, ltb, leb, eqb}
use Rattle.receive_rules.specs.declared.Receiver.{Receiver}
use Rattle.receive_rules.specs.Frame.{Frame, Rx, is_coming, room}
use Rattle.receive_rules.specs.Reading.{readable, early_least}

-- 8 to 1,792 bytes
abbrev pub sized : ℕ → Bool
sized n = leb 8 n && leb n 1792

abbrev pub ended : Frame → Bool
ended f = sized (length f.bytes) && not (is_coming f.state)

abbrev pub started : Frame → Bool
started f = sized (length f.bytes) && is_coming f.state

-- Only the newest frame is coming, and it is while the wire stores it.
unfoldable pub in_order : Bool → List Frame → Bool
in_order storing [] = not storing
in_order storing (f ∷ []) = cond storing (started f) (ended f)
in_order storing (f ∷ g ∷ fs) = ended f && in_order storing (g ∷ fs)

-- What every effect keeps: the frames fit in `size`, the wire is idle, ignored or stored, no more was read than may be, the threshold is an argument's and at least 8, and RX Early stands only for a frame that it was set for.
abbrev pub kept : ℕ → Rx → Bool
kept size x =
    leb (room x.frames) size
    && leb x.receiver.wire 2
    && in_order (eqb x.receiver.wire 2) x.frames
    && leb x.receiver.read (readable x.frames)
    && (leb early_least x.receiver.threshold && leb x.receiver.threshold 2047)
    && (x.receiver.told || not x.receiver.early)

-- RX Early was set for the oldest frame if it is due, and for no other.
unfoldable pub early_settled : Receiver → List Frame → Bool
early_settled r [] = not r.told
early_settled r (f ∷ fs) = cond (is_coming f.state) (r.told || ltb (length f.bytes) r.threshold) (not r.told)

abbrev pub sound : ℕ → Rx → Bool
sound size x = kept size x && early_settled x.receiver x.frames
