-- Demand 2 for a host that needs no driver, over public calls, of which nothing is known but their contracts. Assumes nothing.
use Rattle.std.specs.Prelude.{◌≡◌, true, List, [], ◌∷◌, ◌++◌, map, ℕ, ◌+◌, ◌/◌, length, take, Ok}
use Rattle.store.specs.Store as store
use Rattle.receive_rules.specs.Frame.{Frame}
use Rattle.transmit_rules.specs.Tx.{ready}
use Rattle.transmit_rules.specs.Whole.{bytes_of}
use Rattle.card_rules.specs.Access.{WriteWord}
use Rattle.card_rules.specs.declared.After.{After as AfterCard}
use Rattle.card_rules.specs.CardContracts as contract
use Rattle.driver_rules.specs.Registers.{data_port}
use Rattle.runs.specs.Run.{Host, Earlier, Sent, Said, told}
use Rattle.sends_carried.specs.Packets.{packets}
use Rattle.sends_carried.specs.Host.{Whole, Writable, packet, on_the_wire}
use Rattle.frames_carried.specs.Host.{Readable}
use Rattle.run_calls.specs.Takes.{State, seen, Good, left, Called, CallsBefore}

-- ---- words written

-- a word written to the data port
abbrev pub put : ℕ → Earlier
put v = Host (WriteWord data_port v)

pub record HostPacketsOverCalls : Type 0 where
  -- Written whole by calls of write_word, with any preamble bits, a packet stands behind what was stored.
  pub stored : (w z : ℕ) (ds : List ℕ) (s t : State) → Good s → Whole w ds → Writable w (seen s).adapter → CallsBefore s (map put (w ∷ z ∷ ds)) t
      → packets (seen t) ≡ packets (seen s) ++ (packet w ds ∷ [])
  -- When it is the oldest and a send outcome is possible, a call of success tells the wire just that: padded to 60 unless bit 13 was set.
  pub gone : (w : ℕ) (ds : List ℕ) (newer : List store.Frame) (s t : State) (says : List Said) → Good s → packets (seen s) ≡ packet w ds ∷ newer → ready (seen s).adapter.tx ≡ true → Called s Sent t says
      → (says ≡ told (on_the_wire w ds) ∷ []) × (packets (seen t) ≡ newer)

-- ---- words read

-- calls of read_word at the data port, one after the other, that answer these words
pub data ReadsWords : State → List ℕ → Type 0 where
  none_read : (s : State) → ReadsWords s []
  then_read : (s : State) (r : AfterCard ℕ) (v : ℕ) (vs : List ℕ) → contract.ReadsWord s.card s.ram s.dir data_port r → r.answer ≡ Ok v
      → ReadsWords (left r.card s.ram s.dir s.driver) vs → ReadsWords s (v ∷ vs)

-- The words that the calls answer are the bytes of the oldest frame, two at a time.
abbrev pub HostReadsOverCalls : Type 0
HostReadsOverCalls =
    (f : Frame) (newer : List Frame) (s : State) (vs : List ℕ) → Good s → Readable f newer (seen s).adapter → ReadsWords s vs → length vs ≡ (length f.bytes + 1) / 2
    → take (length f.bytes) (bytes_of vs) ≡ f.bytes
