-- What the commands do that change more than one group, or empty a side. Assumes nothing.
use mathlib.Core.Path.{◌≡◌, ap, subst⁻¹}
use mathlib.Core.Bool.{not, ◌&&◌}
use Prim.Native.Nat.{ℕ, ◌%◌}
use Rattle.bits.specs.Bits.{has}
use Rattle.store.specs.Store.{frames}
use Rattle.receive_rules.specs.Update.{with_early}
use Rattle.receive_rules.specs.Reading as reading
use Rattle.receive_rules.specs.Reading.{rx_empty, deafened}
use Rattle.transmit_rules.specs.Queue.{empty}
use Rattle.transmit_rules.specs.QueueView.{part_of}
use Rattle.transmit_rules.specs.declared.Outcomes.{Outcomes}
use Rattle.transmit_rules.specs.Reports.{Reports}
use Rattle.transmit_rules.specs.Outcome as outcome
use Rattle.transmit_rules.specs.OutcomesView.{reports_of, Reported}
use Rattle.transmit_rules.specs.Tx as tx
use Rattle.transmit_rules.specs.Tx.{with_reports}
use Rattle.transmit_rules.proofs.Steps.{emptied}
use Rattle.card_rules.specs.declared.Card.{Card}
use Rattle.card_rules.specs.Update.{with_select, with_rx, with_tx, select_filter}
use Rattle.card_rules.specs.Groups.{card_select, card_lines, card_receive, card_receiver, card_transmit, card_outcomes}
use Rattle.card_rules.specs.View.{view, Is, Does}
use Rattle.card_rules.proofs.Blank.{frames-packed, packets-packed}
use Rattle.card_rules.specs.Command.{rx_reset, tx_reset, acknowledge}

module _ (c : Card) where
  abbrev deaf : ℕ → Card
  deaf wire = card_receive (record { receiver = (rx_empty wire).receiver; frames = 0 }) (card_select (select_filter 0 c.select) c)

  pub rx-reset-does : (wire : ℕ) → wire ≡ deafened c.receive.receiver.wire → Does c (deaf wire) rx_reset
  unfolding view reading.rx_reset frames
  rx-reset-does wire e ram dir h =
      record {
        shows = ap (λ (w : ℕ). with_select (select_filter 0 c.select) (with_rx (rx_empty w) (view c ram dir))) e;
        held =
            record {
              ram_long = h.ram_long;
              dir_long = h.dir_long;
              frames = frames-packed (c.config.second % 4) ram dir h.ram_long h.dir_long;
              packets = h.packets;
              statuses = h.statuses;
            };
      }

  pub tx-reset-does : (o : Outcomes) → Reported o (outcome.reset (reports_of c.transmit.outcomes))
      → Does c (card_transmit (record { fifo = emptied; outcomes = o }) c) tx_reset
  unfolding view tx.tx_reset frames part_of
  tx-reset-does o e ram dir h =
      record {
        shows = ap (λ (r : Reports). with_tx (record { queue = empty; reports = r }) (view c ram dir)) e.tells;
        held =
            record {
              ram_long = h.ram_long;
              dir_long = h.dir_long;
              frames = h.frames;
              packets = packets-packed (c.config.second % 4) ram dir h.ram_long h.dir_long;
              statuses = e.stacked;
            };
      }

  abbrev answered : ℕ → Card → Card
  answered x d =
      card_lines (record { latch = not (has 1 x) && c.lines.latch; requested = not (has 64 x) && c.lines.requested; low = d.lines.low })
      (card_receiver (with_early (not (has 32 x) && c.receive.receiver.early) d.receive.receiver.told d.receive.receiver) d)

  pub acknowledge-does : (x : ℕ) (o : Outcomes) (d : Card) → d ≡ card_outcomes o c
      → Reported o (outcome.acknowledge (has 8 x) (reports_of c.transmit.outcomes)) → Does c (answered x d) (acknowledge x)
  unfolding view acknowledge
  acknowledge-does x o d e p ram dir h = subst⁻¹ (λ (k : Card). Is (answered x k) ram dir (acknowledge x (view c ram dir))) e
      (record {
        shows = ap (λ (r : Reports). with_tx (with_reports r (view c ram dir).tx) (acknowledge x (view c ram dir))) p.tells;
        held = record { ram_long = h.ram_long; dir_long = h.dir_long; frames = h.frames; packets = h.packets; statuses = p.stacked };
      })
