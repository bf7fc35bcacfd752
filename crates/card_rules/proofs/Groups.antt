-- A card with one group changed is the adapter with that group changed. Assumes nothing.
use mathlib.Core.Path.{◌≡◌, refl, ap}
use mathlib.Core.List.{List}
use Prim.Native.Nat.{ℕ, ◌%◌}
use Rattle.port_rules.specs.declared.IdState.{IdState}
use Rattle.receive_rules.specs.declared.Receiver.{Receiver}
use Rattle.receive_rules.specs.Update.{with_receiver}
use Rattle.transmit_rules.specs.declared.Outcomes.{Outcomes}
use Rattle.transmit_rules.specs.Reports.{Reports}
use Rattle.transmit_rules.specs.OutcomesView.{Reported}
use Rattle.transmit_rules.specs.Tx.{with_reports}
use Rattle.card_rules.specs.declared.Select.{Select}
use Rattle.card_rules.specs.declared.Lines.{Lines}
use Rattle.card_rules.specs.declared.Config.{Config}
use Rattle.card_rules.specs.declared.Prom.{Prom}
use Rattle.card_rules.specs.declared.Card.{Card}
use Rattle.card_rules.specs.Update.{with_id, with_select, with_lines, with_config, with_prom, with_rx, with_tx}
use Rattle.card_rules.specs.Groups.{card_id, card_select, card_lines, card_config, card_prom, card_receiver, card_outcomes}
use Rattle.card_rules.specs.View.{view, Held, Is}

module _ (c : Card) (ram dir : List ℕ) (h : Held c ram dir) where
  pub is_same : Is c ram dir (view c ram dir)
  is_same = record { shows = refl; held = h }

  pub is_id : (v : IdState) → Is (card_id v c) ram dir (with_id v (view c ram dir))
  unfolding view
  is_id v = record { shows = refl; held = record { ram_long = h.ram_long; dir_long = h.dir_long; frames = h.frames; packets = h.packets; statuses = h.statuses } }

  pub is_select : (v : Select) → Is (card_select v c) ram dir (with_select v (view c ram dir))
  unfolding view
  is_select v = record { shows = refl; held = record { ram_long = h.ram_long; dir_long = h.dir_long; frames = h.frames; packets = h.packets; statuses = h.statuses } }

  pub is_lines : (v : Lines) → Is (card_lines v c) ram dir (with_lines v (view c ram dir))
  unfolding view
  is_lines v = record { shows = refl; held = record { ram_long = h.ram_long; dir_long = h.dir_long; frames = h.frames; packets = h.packets; statuses = h.statuses } }

  pub is_prom : (v : Prom) → Is (card_prom v c) ram dir (with_prom v (view c ram dir))
  unfolding view
  is_prom v = record { shows = refl; held = record { ram_long = h.ram_long; dir_long = h.dir_long; frames = h.frames; packets = h.packets; statuses = h.statuses } }

  -- a configuration with the same split
  pub is_config : (v : Config) → v.second % 4 ≡ c.config.second % 4 → Is (card_config v c) ram dir (with_config v (view c ram dir))
  unfolding view
  is_config v e =
      record {
        shows = rw e;
        held = record { ram_long = h.ram_long; dir_long = h.dir_long; frames = rw e h.frames; packets = rw e h.packets; statuses = h.statuses };
      }

  pub is_receiver : (v : Receiver) → Is (card_receiver v c) ram dir (with_rx (with_receiver v (view c ram dir).rx) (view c ram dir))
  unfolding view
  is_receiver v = record { shows = refl; held = record { ram_long = h.ram_long; dir_long = h.dir_long; frames = h.frames; packets = h.packets; statuses = h.statuses } }

  -- the sender's registers and the status stack
  pub is_outcomes : (o : Outcomes) (q : Reports) → Reported o q → Is (card_outcomes o c) ram dir (with_tx (with_reports q (view c ram dir).tx) (view c ram dir))
  unfolding view
  is_outcomes o q e =
      record {
        shows = ap (λ (r : Reports). with_tx (with_reports r (view c ram dir).tx) (view c ram dir)) e.tells;
        held = record { ram_long = h.ram_long; dir_long = h.dir_long; frames = h.frames; packets = h.packets; statuses = e.stacked };
      }
