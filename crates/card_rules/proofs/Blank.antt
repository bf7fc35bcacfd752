-- Sides that hold nothing, whatever the memory holds. Assumes nothing.
use mathlib.Core.Path.{◌≡◌, subst}
use mathlib.Core.List.{List}
use mathlib.Core.Bool.{false}
use Prim.Native.Nat.{ℕ, ◌%◌}
use native.Mathlib.Omega.{arith}
use lib.ListN.{length, get_or, replicate}
use Rattle.store.specs.Store as store
use Rattle.store.specs.Store.{frames, room_of}
use Rattle.port_rules.specs.declared.IdState.{IdState}
use Rattle.port_rules.specs.Card.{id_fresh}
use Rattle.receive_rules.specs.Reading.{rx_empty, deafened}
use Rattle.receive_rules.specs.View.{rx_area}
use Rattle.transmit_rules.specs.Queue.{empty}
use Rattle.transmit_rules.specs.QueueView.{part_of, tx_area}
use Rattle.transmit_rules.specs.declared.Outcomes.{Outcomes}
use Rattle.transmit_rules.specs.Outcome.{at_power_on}
use Rattle.transmit_rules.specs.OutcomesView.{Reported}
use Rattle.transmit_rules.proofs.Steps.{emptied}
use Rattle.card_rules.specs.declared.Card.{Card}
use Rattle.card_rules.specs.Update.{with_id, with_tx}
use Rattle.card_rules.specs.Room.{rx_size, tx_size}
use Rattle.card_rules.specs.Power.{power_on, reset}
use Rattle.card_rules.specs.View.{view, Is, Blank, Does}
use Rattle.card_rules.proofs.Ranges.{rx-small, tx-small}

-- no frames, and no packets, lie in their areas, whatever their sizes
module _ (split : ℕ) (ram dir : List ℕ) (r : length ram ≡ 8192) (d : length dir ≡ 1110) where
  pub frames-packed : store.Sound (rx_area (rx_size split)) 0 ram dir
  unfolding room_of
  frames-packed =
      record
      { in_ram = omega (arith, rx-small split); in_dir = omega arith; few = omega arith; small = omega arith; room = omega arith }

  pub packets-packed : store.Sound (tx_area (tx_size split)) 0 ram dir
  unfolding room_of
  packets-packed =
      record
      { in_ram = omega (arith, tx-small split); in_dir = omega arith; few = omega arith; small = omega arith; room = omega arith }

-- the card that power-on makes
abbrev pub started : List ℕ → ℕ → IdState → Outcomes → Card
started words wire i o =
    record {
      id = i;
      select = record { window = 0; mask = 0; zero = 0; filter = 0 };
      lines = record { latch = false; requested = false; low = 0 };
      config =
          record {
            product = get_or words 0x03 0;
            resource = get_or words 0x09 0;
            enabled = false;
            first = get_or words 0x12 0;
            second = get_or words 0x13 0;
            station = replicate 6 0;
          };
      prom = record { last = 0; writable = false };
      receive = record { receiver = (rx_empty wire).receiver; frames = 0 };
      transmit = record { fifo = emptied; outcomes = o };
    }

-- it is the adapter at power-on
pub started-blank : (words : List ℕ) (wire : ℕ) (i : IdState) (o : Outcomes) → i ≡ id_fresh words → Reported o at_power_on
    → Blank (started words wire i o) (power_on words wire)
unfolding view power_on frames part_of
started-blank words wire i o e p ram dir r d =
    record {
      shows =
          λ j. with_id (e j) (with_tx (record { queue = empty; reports = p.tells j }) (power_on words wire));
      held =
          record {
            ram_long = r;
            dir_long = d;
            frames = frames-packed (get_or words 0x13 0 % 4) ram dir r d;
            packets = packets-packed (get_or words 0x13 0 % 4) ram dir r d;
            statuses = p.stacked;
          };
    }

-- Global Reset
pub reset-does : (c r : Card) (wire : ℕ) → wire ≡ deafened c.receive.receiver.wire → Blank r (power_on c.id.words wire) → Does c r reset
unfolding view reset
reset-does c r wire e b ram dir h = subst (λ (w : ℕ). Is r ram dir (power_on c.id.words w)) e (b ram dir h.ram_long h.dir_long)
