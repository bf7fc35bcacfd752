-- Demand 2, its first half: what the host writes is what goes on the wire. Assumes nothing.
-- A state need not be sound for this; on one that is not, the public calls answer 1, and no run here has them.
use Rattle.std.specs.Prelude.{◌≡◌, true, false, List, [], ◌∷◌, ◌++◌, map, ℕ, ◌+◌, ◌<◌, length}
use Rattle.store.specs.Store.{Frame, round4}
use Rattle.transmit_rules.specs.Leave as leave
use Rattle.transmit_rules.specs.Tx.{ready}
use Rattle.card_rules.specs.Room.{tx_free}
use Rattle.driver_rules.specs.Driver.{sending}
use Rattle.driver_rules.specs.Send.{refusing}
use Rattle.runs.specs.Run.{Bench, sound_bench, Event, Sent, Send, IdWrite, IdRead, told, sends, next, said, after, sayings, before}
use Rattle.runs.specs.Sound.{fresh}
use Rattle.sends_carried.specs.Packets.{are_bytes, stored, padded, packets, Clear, fit, answer_to, accepted, sends_bytes, gone, all_succeed, on_wire, successes}

-- ---- what a send answers, whatever the state

pub record Answers (packet : List ℕ) (b : Bench) : Type 0 where
  pub answer : (sends packet b).answer.answer ≡ answer_to packet b
  -- refused, it leaves the FIFO as it was, and a sound bench whole
  pub fifo_kept : refusing (answer_to packet b) ≡ true → (next (Send packet) b).adapter.tx.queue ≡ b.adapter.tx.queue
  pub kept : refusing (answer_to packet b) ≡ true → sound_bench b ≡ true → next (Send packet) b ≡ b

abbrev pub ASendAnswersByTheTable : Type 0
ASendAnswersByTheTable = (packet : List ℕ) (b : Bench) → Answers packet b

-- ---- one packet that is taken, from any clear state

pub record Stores (packet : List ℕ) (b : Bench) : Type 0 where
  -- It stands behind what was stored, whole, byte for byte; TX Free falls by its room; the driver counts it; the card is as fit as it was, and the state clear.
  pub last : packets (next (Send packet) b) ≡ packets b ++ (stored packet ∷ [])
  pub room : tx_free (next (Send packet) b).adapter + (4 + round4 (length packet)) ≡ tx_free b.adapter
  pub driver : (next (Send packet) b).driver ≡ sending b.driver
  pub stays_fit : fit (next (Send packet) b).adapter ≡ fit b.adapter
  pub clear : Clear (next (Send packet) b)

abbrev pub APacketIsStoredWhole : Type 0
APacketIsStoredWhole =
    (packet : List ℕ) (b : Bench) → are_bytes packet ≡ true → Clear b → refusing (answer_to packet b) ≡ false → Stores packet b

-- ---- a success, when the oldest packet is one of the driver's

abbrev pub ASuccessTellsTheBytes : Type 0
ASuccessTellsTheBytes =
    (packet : List ℕ) (newer : List Frame) (b : Bench) → packets b ≡ stored packet ∷ newer → ready b.adapter.tx ≡ true →
    (said Sent b ≡ told (padded packet) ∷ []) × (packets (next Sent b) ≡ newer)

-- ---- any sequence of wire events, send outcomes and driver calls, from any clear state: opened or not, active or not, in any window

pub record Carried (es : List Event) (b : Bench) : Type 0 where
  -- What was stored and what is accepted is what has gone and what is stored, in this order: none is lost, doubled, changed or overtaken.
  pub in_order : packets b ++ map stored (accepted es b) ≡ map (λ g. g.packet) (gone es b) ++ packets (after es b)
  -- The wire is told of those that went by success, and of nothing else.
  pub on_wire_is : on_wire (sayings es b) ≡ successes (gone es b)
  -- So, from an empty FIFO and without collisions, what the wire was told, and will be told of what is still stored, is what was accepted, byte for byte.
  pub byte_for_byte : packets b ≡ [] → all_succeed (gone es b) ≡ true →
      on_wire (sayings es b) ++ map leave.told (packets (after es b)) ≡ map padded (accepted es b)
  pub clear : Clear (after es b)

abbrev pub SendsAreCarried : Type 0
SendsAreCarried = (es : List Event) (b : Bench) → sends_bytes es ≡ true → Clear b → Carried es b

-- ---- clear states: power-on, any access through the ID port, and by the above every event
-- What is ruled out is a host that wrote to the FIFO by itself and left half a packet there, which the driver's words would fill up, or a failure.

pub record ClearStates : Type 0 where
  pub at_power_on_is : (words : List ℕ) → Clear (fresh words)
  pub id_write_call : (p : ℕ) (small : p < 16) (byte : ℕ) (b : Bench) → Clear b → Clear (before (IdWrite p small byte) b)
  pub id_read : (p : ℕ) (small : p < 16) (bus : ℕ) (b : Bench) → Clear b → Clear (before (IdRead p small bus) b)
