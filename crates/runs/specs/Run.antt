-- Runs: what happens to the card, what its driver is asked, and what is answered, in order.
-- The state is sound all along (`EveryStepKeepsSoundness`), so refusal 1 does not come here. Assumes nothing.
use Rattle.std.specs.Prelude.{◌≡◌, Bool, true, cond, ◌&&◌, List, [], ◌∷◌, ◌++◌, ℕ, ◌<◌, length}
use Rattle.port_rules.specs.Card.{id_write, id_after_read}
use Rattle.transmit_rules.specs.Leave.{told_of}
use Rattle.transmit_rules.specs.Tx.{ready}
use Rattle.card_rules.specs.Adapter.{Adapter}
use Rattle.card_rules.specs.Sound.{sound}
use Rattle.card_rules.specs.Access.{Access, ReadWord, ReadByte, WriteWord, WriteByte, access}
use Rattle.card_rules.specs.Event as card
use Rattle.card_rules.specs.Calls.{is_word, is_byte, on_wire, off_wire}
use Rattle.driver_rules.specs.declared.Driver.{Driver}
use Rattle.driver_rules.specs.Driver.{driver_sound}
use Rattle.driver_rules.specs.Talk.{Ran, run}
use Rattle.driver_rules.specs.Open.{Opening}
use Rattle.driver_rules.specs.Send.{Sending}
use Rattle.driver_rules.specs.Items.{Serving}
use Rattle.driver_rules.specs.Areas.{in_look, in_frame}
use Rattle.driver_rules.specs.Calls.{open_call, send_call, service_call, large}
use Rattle.driver_rules.specs.Paper.{Paper, open_paper, send_paper, service_paper}

-- the card and its driver
pub record Bench : Type 0 where
  pub adapter : Adapter
  pub driver : Driver

abbrev pub sound_bench : Bench → Bool
sound_bench b = sound b.adapter && driver_sound b.driver

abbrev pub with_adapter : Adapter → Bench → Bench
with_adapter a b = record { adapter = a; driver = b.driver }

-- the lookahead area and the frame area, as they are lent to a service
pub record Areas : Type 0 where
  pub look : List ℕ
  pub frame : List ℕ

abbrev pub full : Areas → Bool
full s = large s.look s.frame

-- The wire, the transmitter, and the driver's calls.
pub data Event : Type 0 where
  -- a start with the first 8 bytes; a byte; an end: check sequence good, alignment good
  Start : (first : List ℕ) → length first ≡ 8 → Event
  Byte : ℕ → Event
  End : (check alignment : Bool) → Event
  -- a send outcome: success, 16 collisions
  Sent : Event
  Collided : Event
  Open : ℕ → ℕ → ℕ → Event
  Send : List ℕ → Event
  Service : (budget : ℕ) → Areas → Event

-- Before the driver is opened, the host's accesses and the ID port's too. A port is its x in 1x0h; `bus` is what a read shows.
pub data Earlier : Type 0 where
  Host : Access → Earlier
  IdWrite : (p : ℕ) → p < 16 → (byte : ℕ) → Earlier
  IdRead : (p : ℕ) → p < 16 → (bus : ℕ) → Earlier
  Later : Event → Earlier

-- ---- what is answered

pub data Said : Type 0 where
  refused : ℕ → Said
  -- what a success tells the wire
  told : List ℕ → Said
  -- by open and send
  answered : Paper → Said
  -- by a service: its answer with the accesses used, the bytes handed up, and both areas after it
  served : Paper → (bytes : List ℕ) → Areas → Said

-- ---- the calls

unfoldable pub opens : ℕ → ℕ → ℕ → Bench → Ran Opening
opens w₀ w₁ w₂ b = run (open_call true b.driver w₀ w₁ w₂) b.adapter

unfoldable pub sends : List ℕ → Bench → Ran Sending
sends packet b = run (send_call true b.driver packet) b.adapter

unfoldable pub serves : ℕ → Areas → Bench → Ran Serving
serves budget s b = run (service_call true (full s) b.driver budget) b.adapter

abbrev pub serving : Areas → Ran Serving → Said
serving s R =
    served (service_paper R.answer.answer (length R.made)) R.answer.bytes
    (record { look = in_look R.answer.bytes s.look; frame = in_frame R.answer.bytes s.frame })

-- the wire is idle, or carries a frame
abbrev pub wire : Bench → ℕ
wire b = b.adapter.rx.receiver.wire

-- a step that is taken, or refused 11
abbrev pub taken : Bool → Adapter → Bench → Bench
taken ok a b = with_adapter (cond ok a b.adapter) b

abbrev pub refusing : Bool → List Said
refusing ok = cond ok [] (refused 11 ∷ [])

-- ---- the bench after an event, and what is answered: a wire event that is taken, and 16 collisions, answer nothing

unfoldable pub next : Event → Bench → Bench
next (Start first eight) b = taken (off_wire (wire b)) (card.wire_start first b.adapter) b
next (Byte v) b = taken (on_wire (wire b)) (card.wire_byte v b.adapter) b
next (End check alignment) b = taken (on_wire (wire b)) (card.wire_end check alignment b.adapter) b
next Sent b = taken (ready b.adapter.tx) (card.success b.adapter) b
next Collided b = taken (ready b.adapter.tx) (card.collisions b.adapter) b
next (Open w₀ w₁ w₂) b = record { adapter = (opens w₀ w₁ w₂ b).adapter; driver = (opens w₀ w₁ w₂ b).answer.driver }
next (Send packet) b = record { adapter = (sends packet b).adapter; driver = (sends packet b).answer.driver }
next (Service budget s) b = record { adapter = (serves budget s b).adapter; driver = (serves budget s b).answer.driver }

unfoldable pub said : Event → Bench → List Said
said (Start first eight) b = refusing (off_wire (wire b))
said (Byte v) b = refusing (on_wire (wire b))
said (End check alignment) b = refusing (on_wire (wire b))
said Sent b = cond (ready b.adapter.tx) (told (told_of b.adapter.tx.queue.packets)) (refused 11) ∷ []
said Collided b = refusing (ready b.adapter.tx)
said (Open w₀ w₁ w₂) b = answered (open_paper (opens w₀ w₁ w₂ b).answer.answer) ∷ []
said (Send packet) b = answered (send_paper (sends packet b).answer.answer) ∷ []
said (Service budget s) b = serving s (serves budget s b) ∷ []

unfoldable pub after : List Event → Bench → Bench
after [] b = b
after (e ∷ es) b = after es (next e b)

unfoldable pub sayings : List Event → Bench → List Said
sayings [] b = []
sayings (e ∷ es) b = said e b ++ sayings es (next e b)

-- ---- histories

-- 12: an offset that is refused
unfoldable pub permitted : Access → Adapter → Bool
permitted (ReadWord o) a = is_word o
permitted (ReadByte o) a = is_byte a.select.window o
permitted (WriteWord o v) a = is_word o
permitted (WriteByte o v) a = is_byte a.select.window o

-- At the ID port the card's ID state takes the access and is seated again.
unfoldable pub before : Earlier → Bench → Bench
before (Host x) b = taken (permitted x b.adapter) (access x b.adapter).adapter b
before (IdWrite p small byte) b = with_adapter (card.seat (id_write b.adapter.id p byte) b.adapter) b
before (IdRead p small bus) b = with_adapter (card.seat (id_after_read b.adapter.id p bus) b.adapter) b
before (Later e) b = next e b

unfoldable pub since : List Earlier → Bench → Bench
since [] b = b
since (h ∷ hs) b = since hs (before h b)
