-- What each call over the slice comes to: the definition of the call by value, with the slice for the bus.
-- Assumes nothing.
use Rattle.std.specs.Prelude.{ℕ, ◌≤◌, ◌≡◌, List, [], length, Result, ⊤}
use Rattle.refusal.specs.declared.Refusal.{Refusal}
use Rattle.port_rules.specs.declared.IdState.{IdState}
use Rattle.port_rules.specs.declared.Bus.{Bus}
use Rattle.port_rules.specs.Port.{held}
use Rattle.port_rules.specs.Calls.{Reply, Outcome, wrote_reply, bit_reply, found_reply, activation_reply, padded, port_writes, port_reads, finds_cards, activates_card}
use Rattle.port_rules.specs.declared.Listed.{Listed}

-- The slice as a bus: as many places as there are cards, and all of them taken.
abbrev pub lent : List IdState → Bus
lent cards = record { cards = cards; count = length cards }

-- A call's answer, and the slice as it leaves it.
abbrev pub left_over : {T : Type 0} → (Result T Refusal → Reply) → Result T Refusal → List IdState → Outcome
left_over reply r cards = record { reply = reply r; places = padded []; bus = lent cards }

abbrev pub wrote_over : Result ⊤ Refusal → List IdState → Outcome
wrote_over = left_over wrote_reply

abbrev pub read_over : Result ℕ Refusal → List IdState → Outcome
read_over = left_over bit_reply

abbrev pub found_over : Listed → List IdState → Outcome
found_over r cards = record { reply = found_reply r.answer; places = r.addresses; bus = lent cards }

abbrev pub activated_over : Result ℕ Refusal → List IdState → Outcome
activated_over = left_over activation_reply

-- Two outcomes with the same answer, the same places and the same cards there.
pub record Alike (o u : Outcome) : Type 0 where
  pub answers : o.reply ≡ u.reply
  pub listed : o.places ≡ u.places
  pub cards : held o.bus ≡ held u.bus

-- A bus that has a place for each of its cards comes to what the slice of these cards comes to.
pub record TheSameAsByValue : Type 0 where
  pub writes : (b : Bus) (port byte : ℕ) → b.count ≤ length b.cards → Alike (port_writes b port byte) (port_writes (lent (held b)) port byte)
  pub reads : (b : Bus) (port : ℕ) → b.count ≤ length b.cards → Alike (port_reads b port) (port_reads (lent (held b)) port)
  pub finds : (b : Bus) (port : ℕ) → b.count ≤ length b.cards → Alike (finds_cards b port) (finds_cards (lent (held b)) port)
  pub activates : (b : Bus) (port tag base : ℕ) → b.count ≤ length b.cards → Alike (activates_card b port tag base) (activates_card (lent (held b)) port tag base)
