-- Packets that the driver takes, that the card stores, and that leave it. Assumes nothing.
use Rattle.std.specs.Prelude.{◌≡◌, Bool, true, false, cond, not, ◌&&◌, List, [], ◌∷◌, ◌++◌, ℕ, ◌+◌, ◌-◌, length, replicate, eqb, ltb, Result, Ok, Err}
use Rattle.refusal.specs.declared.Refusal.{Refusal}
use Rattle.refusal.specs.declared.Refusal.TheVariants.{NeverOpened, LengthOutside, SixteenUnreported, CardUnfit, NoRoom}
use Rattle.store.specs.Store.{Frame, round4}
use Rattle.transmit_rules.specs.Leave as leave
use Rattle.transmit_rules.specs.Tx.{ready}
use Rattle.card_rules.specs.Adapter.{Adapter}
use Rattle.card_rules.specs.Room.{tx_free}
use Rattle.card_rules.specs.Status.{failure, shows}
use Rattle.driver_rules.specs.Packet.{outside}
use Rattle.driver_rules.specs.Send.{refusing}
use Rattle.runs.specs.Run.{Bench, Event, Start, Byte, End, Sent, Collided, Open, Send, Service, Said, refused, told, answered, served, sends, next}

-- ---- a packet

unfoldable pub are_bytes : List ℕ → Bool
are_bytes [] = true
are_bytes (x ∷ xs) = ltb x 256 && are_bytes xs

-- A packet of the driver's as the card stores it: of bits 15 to 11 of its preamble bit 15 alone (completion wanted, check not included), and its bytes.
abbrev pub stored : List ℕ → Frame
stored packet = record { head = 16; bytes = packet }

-- Its bytes, then zeros up to 60.
abbrev pub padded : List ℕ → List ℕ
padded packet = packet ++ replicate (60 - length packet) 0

-- ---- the FIFO

-- the packets that are stored whole, oldest first
abbrev pub packets : Bench → List Frame
packets b = b.adapter.tx.queue.packets

-- No transmit failure stands, and no packet is half written.
pub record Clear (b : Bench) : Type 0 where
  pub no_failure : b.adapter.tx.queue.failed ≡ false
  pub none_half_written : b.adapter.tx.queue.part.words ≡ 0

-- ---- a send

-- The Status word shows window 1 and no Adapter Failure.
abbrev pub fit : Adapter → Bool
fit a = a.id.active && (eqb a.select.window 1 && not (shows 2 a.select.zero (failure a)))

-- What a send answers: refused 13, 2, 3, 5, 4, first that holds wins; else the ticket.
unfoldable pub answer_to : List ℕ → Bench → Result ℕ Refusal
answer_to packet b =
    cond (not b.driver.opened) (Err NeverOpened)
    (cond (outside (length packet)) (Err LengthOutside)
    (cond (ltb 15 b.driver.unreported) (Err SixteenUnreported)
    (cond (not (fit b.adapter)) (Err CardUnfit)
    (cond (ltb (tx_free b.adapter) (4 + round4 (length packet))) (Err NoRoom)
    (Ok b.driver.sent)))))

-- a send is answered by a ticket
abbrev pub ticketed : List ℕ → Bench → Bool
ticketed packet b = not (refusing (sends packet b).answer.answer)

-- the packet that the driver takes by an event, and over a sequence, in order
unfoldable pub accepts : Event → Bench → List (List ℕ)
accepts (Start first eight) b = []
accepts (Byte v) b = []
accepts (End check alignment) b = []
accepts Sent b = []
accepts Collided b = []
accepts (Open w₀ w₁ w₂) b = []
accepts (Send packet) b = cond (ticketed packet b) (packet ∷ []) []
accepts (Service budget s) b = []

unfoldable pub accepted : List Event → Bench → List (List ℕ)
accepted [] b = []
accepted (e ∷ es) b = accepts e b ++ accepted es (next e b)

-- every packet that is handed to a send is bytes
unfoldable pub sends_bytes : List Event → Bool
sends_bytes [] = true
sends_bytes (Start first eight ∷ es) = sends_bytes es
sends_bytes (Byte v ∷ es) = sends_bytes es
sends_bytes (End check alignment ∷ es) = sends_bytes es
sends_bytes (Sent ∷ es) = sends_bytes es
sends_bytes (Collided ∷ es) = sends_bytes es
sends_bytes (Open w₀ w₁ w₂ ∷ es) = sends_bytes es
sends_bytes (Send packet ∷ es) = are_bytes packet && sends_bytes es
sends_bytes (Service budget s ∷ es) = sends_bytes es

-- ---- a packet that leaves: by success, or after 16 collisions

pub record Gone : Type 0 where
  pub success : Bool
  pub packet : Frame

unfoldable pub oldest : Bool → List Frame → List Gone
oldest success [] = []
oldest success (p ∷ ps) = record { success = success; packet = p } ∷ []

-- by an event, and over a sequence, in order
unfoldable pub leaves : Event → Bench → List Gone
leaves (Start first eight) b = []
leaves (Byte v) b = []
leaves (End check alignment) b = []
leaves Sent b = cond (ready b.adapter.tx) (oldest true (packets b)) []
leaves Collided b = cond (ready b.adapter.tx) (oldest false (packets b)) []
leaves (Open w₀ w₁ w₂) b = []
leaves (Send packet) b = []
leaves (Service budget s) b = []

unfoldable pub gone : List Event → Bench → List Gone
gone [] b = []
gone (e ∷ es) b = leaves e b ++ gone es (next e b)

unfoldable pub all_succeed : List Gone → Bool
all_succeed [] = true
all_succeed (g ∷ gs) = g.success && all_succeed gs

-- ---- the wire

-- what it is told, by the answers of a run
unfoldable pub on_wire : List Said → List (List ℕ)
on_wire [] = []
on_wire (refused n ∷ xs) = on_wire xs
on_wire (told bytes ∷ xs) = bytes ∷ on_wire xs
on_wire (answered p ∷ xs) = on_wire xs
on_wire (served p bytes s ∷ xs) = on_wire xs

-- what is told of the packets that left by success
unfoldable pub successes : List Gone → List (List ℕ)
successes [] = []
successes (g ∷ gs) = cond g.success (leave.told g.packet ∷ successes gs) (successes gs)
