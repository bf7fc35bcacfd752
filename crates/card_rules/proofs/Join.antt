-- A step of one side is a step of the adapter: the other side lies apart in the memory. Assumes nothing.
use mathlib.Core.Path.{◌≡◌, ap₂, subst, subst⁻¹, ◌∙◌}
use mathlib.Core.List.{List}
use Prim.Native.Nat.{ℕ, ◌-◌, ◌%◌}
use native.Mathlib.Omega.{arith}
use Rattle.store.specs.Store.{Kept}
use Rattle.receive_rules.specs.declared.Receive.{Receive}
use Rattle.receive_rules.specs.Frame.{Rx}
use Rattle.receive_rules.specs.View as rx
use Rattle.receive_rules.proofs.Steps.{apart-packed, apart-same}
use Rattle.transmit_rules.specs.Queue.{Queue}
use Rattle.transmit_rules.proofs.Apart.{packed-kept, queue-kept}
use Rattle.transmit_rules.specs.OutcomesView.{reports_of}
use Rattle.transmit_rules.specs.declared.Transmit.{Transmit}
use Rattle.transmit_rules.specs.Tx.{Tx}
use Rattle.transmit_rules.specs.View as tx
use Rattle.card_rules.specs.declared.Card.{Card}
use Rattle.card_rules.specs.Update.{with_rx, with_tx}
use Rattle.card_rules.specs.Room.{rx_size, tx_size}
use Rattle.card_rules.specs.Groups.{card_receive, card_transmit}
use Rattle.card_rules.specs.View.{rx_size_of, tx_size_of, view, Held, Is}
use Rattle.card_rules.proofs.Ranges.{whole-ram}

-- the transmit area begins where the receive area ends
pub tx_base : (split : ℕ) → 8192 - tx_size split ≡ rx_size split
tx_base split = omega (arith, whole-ram split)

module _ (c : Card) (ram dir ram' dir' : List ℕ) (h : Held c ram dir) where
  pub is_rx : (r : Receive) (x : Rx) → rx.Step (rx_size_of c) r ram dir ram' dir' x → Is (card_receive r c) ram' dir' (with_rx x (view c ram dir))
  unfolding view
  is_rx r x s =
      let k : Kept 0 (8192 - tx_size_of c) ram ram' = subst⁻¹ (λ (n : ℕ). Kept 0 n ram ram') (tx_base (c.config.second % 4)) s.ram_kept in
      let q = queue-kept (tx_size_of c) c.transmit.fifo ram dir ram' dir' k s.dir_kept h.packets in
      record {
        shows =
            ap₂ (λ (y : Rx) (z : Queue). with_tx (record { queue = z; reports = reports_of c.transmit.outcomes }) (with_rx y (view c ram dir))) s.shows q;
        held =
            record {
              ram_long = s.ram_kept.long ∙ h.ram_long;
              dir_long = s.dir_kept.long ∙ h.dir_long;
              frames = s.packed;
              packets = packed-kept (tx_size_of c) c.transmit.fifo ram dir ram' dir' k s.dir_kept h.packets;
              statuses = h.statuses;
            };
      }

  pub is_tx : (t : Transmit) (x : Tx) → tx.Step (tx_size_of c) t ram dir ram' dir' x → Is (card_transmit t c) ram' dir' (with_tx x (view c ram dir))
  unfolding view
  is_tx t x s =
      let k : Kept (rx_size_of c) (tx_size_of c) ram ram' = subst (λ (n : ℕ). Kept n (tx_size_of c) ram ram') (tx_base (c.config.second % 4)) s.ram_kept in
      let q = apart-same (rx_size_of c) (tx_size_of c) 342 c.receive ram dir ram' dir' k s.dir_kept h.frames in
      record {
        shows = ap₂ (λ (y : Rx) (z : Tx). with_tx z (with_rx y (view c ram dir))) q s.shows;
        held =
            record {
              ram_long = s.ram_kept.long ∙ h.ram_long;
              dir_long = s.dir_kept.long ∙ h.dir_long;
              frames = apart-packed (rx_size_of c) (tx_size_of c) 342 c.receive ram dir ram' dir' k s.dir_kept h.frames;
              packets = s.packed;
              statuses = s.stacked;
            };
      }

  -- the same where the size came from the configuration
  pub rx-does : (g : ℕ → Rx → Rx) (size : ℕ) (r : Receive) → size ≡ rx_size_of c → rx.Step size r ram dir ram' dir' (g size (rx.rx_of size c.receive ram dir))
      → Is (card_receive r c) ram' dir' (with_rx (g (rx_size_of c) (view c ram dir).rx) (view c ram dir))
  unfolding view
  rx-does g size r e s =
      is_rx r (g (rx_size_of c) (view c ram dir).rx) (subst (λ (n : ℕ). rx.Step n r ram dir ram' dir' (g n (rx.rx_of n c.receive ram dir))) e s)

  pub tx-does : (g : ℕ → Tx → Tx) (size : ℕ) (t : Transmit) → size ≡ tx_size_of c → tx.Step size t ram dir ram' dir' (g size (tx.tx_of size c.transmit ram dir))
      → Is (card_transmit t c) ram' dir' (with_tx (g (tx_size_of c) (view c ram dir).tx) (view c ram dir))
  unfolding view
  tx-does g size t e s =
      is_tx t (g (tx_size_of c) (view c ram dir).tx) (subst (λ (n : ℕ). tx.Step n t ram dir ram' dir' (g n (tx.tx_of n c.transmit ram dir))) e s)
