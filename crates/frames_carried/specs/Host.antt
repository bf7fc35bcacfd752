-- Demand 2 for a host that needs no driver: the words read at the data port are the bytes of the oldest frame, two at a time. Assumes nothing.
use Rattle.std.specs.Prelude.{◌≡◌, true, false, List, ◌∷◌, ◌+◌, ◌/◌, length, take}
use Rattle.receive_rules.specs.Frame.{Frame, is_coming}
use Rattle.card_rules.specs.Adapter.{Adapter}
use Rattle.driver_rules.specs.Talk.{bytes_read}
use Rattle.frames_carried.specs.Bytes.{octets}

-- The card is active in window 1, no receive failure stands, and of the oldest frame, which has ended, nothing is read.
pub record Readable (f : Frame) (newer : List Frame) (a : Adapter) : Type 0 where
  pub active : a.id.active ≡ true
  pub window : a.select.window ≡ 1
  pub no_failure : a.rx.receiver.failed ≡ false
  pub none_read : a.rx.receiver.read ≡ 0
  pub stored : a.rx.frames ≡ f ∷ newer
  pub ended : is_coming f.state ≡ false
  pub bytes : octets f.bytes ≡ true

abbrev pub HostReadsBringTheFrame : Type 0
HostReadsBringTheFrame =
    (f : Frame) (newer : List Frame) (a : Adapter) → Readable f newer a → take (length f.bytes) (bytes_read ((length f.bytes + 1) / 2) a) ≡ f.bytes
