-- Demand 2 for a host that needs no driver: a packet written whole by register writes, with any preamble bits, goes on the wire as it was written. Assumes nothing.
use Rattle.std.specs.Prelude.{◌≡◌, true, false, cond, List, [], ◌∷◌, ◌++◌, ℕ, ◌+◌, ◌-◌, ◌*◌, ◌/◌, ◌≤◌, length, take, replicate}
use Rattle.bits.specs.Bits.{has}
use Rattle.store.specs.Store.{Frame, begun, len_of, round4}
use Rattle.transmit_rules.specs.Queue.{no_part}
use Rattle.transmit_rules.specs.Write.{sized}
use Rattle.transmit_rules.specs.Whole.{bytes_of}
use Rattle.transmit_rules.specs.Tx.{ready}
use Rattle.card_rules.specs.Adapter.{Adapter}
use Rattle.card_rules.specs.Room.{tx_free}
use Rattle.driver_rules.specs.Talk.{after_writes}
use Rattle.runs.specs.Run as run
use Rattle.runs.specs.Run.{Bench, said, next}

-- The preamble w, whose length lies in 6 to 1,792, any second word, and the data as words, low byte first, padded to 4.
pub record Whole (w : ℕ) (ds : List ℕ) : Type 0 where
  pub length_fits : sized (len_of w) ≡ true
  pub padded : 2 * length ds ≡ round4 (len_of w)

-- The card is active in window 1, no transmit failure stands, no packet is half written, and there is room.
pub record Writable (w : ℕ) (a : Adapter) : Type 0 where
  pub active : a.id.active ≡ true
  pub window : a.select.window ≡ 1
  pub no_failure : a.tx.queue.failed ≡ false
  pub none_half_written : a.tx.queue.part.words ≡ 0
  pub fits : 4 + round4 (len_of w) ≤ tx_free a

-- the packet as the host wrote it: bits 15 to 11 of the preamble, and as many bytes as its length says
abbrev pub packet : ℕ → List ℕ → Frame
packet w ds = begun (w / 2048) (take (len_of w) (bytes_of ds))

-- what the wire is told of it: its bytes, then zeros up to 60 unless bit 13 of the preamble was set
abbrev pub on_the_wire : ℕ → List ℕ → List ℕ
on_the_wire w ds = take (len_of w) (bytes_of ds) ++ replicate (cond (has 0x2000 w) 0 (60 - length (take (len_of w) (bytes_of ds)))) 0

pub record HostPacketsGoOnTheWire : Type 0 where
  -- Written, it stands behind what was stored, whole.
  pub stored : (w z : ℕ) (ds : List ℕ) (a : Adapter) → Whole w ds → Writable w a →
      (after_writes (w ∷ z ∷ ds) a).tx.queue ≡ record { failed = false; packets = a.tx.queue.packets ++ (packet w ds ∷ []); part = no_part }
  -- When it is the oldest and a send outcome is possible, a success tells the wire just that, and it leaves.
  pub gone : (w : ℕ) (ds : List ℕ) (newer : List Frame) (b : Bench) → b.adapter.tx.queue.packets ≡ packet w ds ∷ newer → ready b.adapter.tx ≡ true →
      (said run.Sent b ≡ run.told (on_the_wire w ds) ∷ []) × ((next run.Sent b).adapter.tx.queue.packets ≡ newer)
