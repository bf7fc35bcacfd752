-- RX Early, at the end of every step. Assumes nothing.
use Rattle.std.specs.Prelude.{List, [], ◌∷◌, Bool, false, not, ◌&&◌, ◌||◌, length, leb}
use Rattle.receive_rules.specs.declared.Receiver.{Receiver}
use Rattle.receive_rules.specs.Frame.{Frame, Rx, is_coming}
use Rattle.receive_rules.specs.Update.{with_early, with_receiver}

-- the oldest frame has the threshold's bytes, and RX Early was not set for it yet
abbrev pub early_due : Receiver → Frame → Bool
early_due r f = leb r.threshold (length f.bytes) && not r.told

-- RX Early is set once per frame when the oldest, still incomplete, has the threshold's bytes. It falls when that frame completes or leaves.
unfoldable pub early_flag : Receiver → List Frame → Bool
early_flag r [] = false
early_flag r (f ∷ fs) = is_coming f.state && (early_due r f || r.early)

-- whether it was set for the oldest frame
unfoldable pub told_flag : Receiver → List Frame → Bool
told_flag r [] = false
told_flag r (f ∷ fs) = is_coming f.state && (early_due r f || r.told)

abbrev pub settle_early : Rx → Rx
settle_early x = with_receiver (with_early (early_flag x.receiver x.frames) (told_flag x.receiver x.frames) x.receiver) x
