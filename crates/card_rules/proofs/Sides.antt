-- What the soundness of a card tells of its parts, and what the parts' soundness tells of the card. Assumes nothing.
use mathlib.Core.Path.{◌≡◌, ap, subst⁻¹, ◌∙◌}
use mathlib.Core.Bool.{Bool, true, not, ◌&&◌}
use mathlib.Core.List.{List}
use Prim.Native.Nat.{ℕ, ◌%◌}
use Rattle.bits.proofs.Tests.{both, join}
use Rattle.port_rules.specs.Sound.{id_sound}
use Rattle.receive_rules.specs.View as rx
use Rattle.receive_rules.specs.Sound as rxs
use Rattle.receive_rules.proofs.Facts.{sound-told, kept-shown}
use Rattle.receive_rules.proofs.Settled as rxk
use Rattle.transmit_rules.specs.Tx as txs
use Rattle.transmit_rules.specs.View as tx
use Rattle.transmit_rules.proofs.OutcomesKeeps.{settled, stays}
use Rattle.transmit_rules.proofs.Keeps as txk
use Rattle.card_rules.specs.declared.Card.{Card}
use Rattle.card_rules.specs.Adapter.{Adapter}
use Rattle.card_rules.specs.Status.{flags, interrupting}
use Rattle.card_rules.specs.Update.{with_lines, with_rx, with_tx, lines_latch}
use Rattle.card_rules.specs.Settle.{with_latch, settle, settle_sides}
use Rattle.card_rules.specs.Room.{rx_room, tx_room}
use Rattle.card_rules.specs.Sound.{select_sound, registers_sound, kept, latch_settled, sound}
use Rattle.card_rules.specs.View.{rx_size_of, tx_size_of, view, Sound}
use Rattle.card_rules.proofs.Ranges.{rx-small, tx-small}

-- ---- a sound adapter

module _ (a : Adapter) where
  abbrev rx_part : Bool
  rx_part = rxs.sound (rx_room a) a.rx

  abbrev tx_part : Bool
  tx_part = txs.sound (tx_room a) a.tx

  abbrev rest : Bool
  rest = registers_sound a && latch_settled a

  pub rx_of_lem : sound a ≡ true → rx_part ≡ true
  rx_of_lem s = (both rx_part (tx_part && rest) s).0

  others : sound a ≡ true → (tx_part && rest) ≡ true
  others s = (both rx_part (tx_part && rest) s).1

  pub tx_of_lem : sound a ≡ true → tx_part ≡ true
  tx_of_lem s = (both tx_part rest (others s)).0

  pub registers_of : sound a ≡ true → registers_sound a ≡ true
  registers_of s = (both (registers_sound a) (latch_settled a) (both tx_part rest (others s)).1).0

  pub latch_of : sound a ≡ true → latch_settled a ≡ true
  latch_of s = (both (registers_sound a) (latch_settled a) (both tx_part rest (others s)).1).1

  -- the ID state is sound, no reset is due, and the selected registers are in range
  pub identified : sound a ≡ true → id_sound a.id ≡ true
  identified s = (both (id_sound a.id) (not a.id.due && select_sound a.select) (registers_of s)).0

  idle_selected : sound a ≡ true → (not a.id.due && select_sound a.select) ≡ true
  idle_selected s = (both (id_sound a.id) (not a.id.due && select_sound a.select) (registers_of s)).1

  pub idle : sound a ≡ true → not a.id.due ≡ true
  idle s = (both (not a.id.due) (select_sound a.select) (idle_selected s)).0

  pub selected : sound a ≡ true → select_sound a.select ≡ true
  selected s = (both (not a.id.due) (select_sound a.select) (idle_selected s)).1

  pub sound_by : rx_part ≡ true → tx_part ≡ true → registers_sound a ≡ true → latch_settled a ≡ true → sound a ≡ true
  sound_by r t g l = join rx_part (tx_part && rest) r (join tx_part rest t (join (registers_sound a) (latch_settled a) g l))

  -- ---- what every effect keeps

  abbrev rx_kept : Bool
  rx_kept = rxs.kept (rx_room a) a.rx

  abbrev tx_kept : Bool
  tx_kept = txs.kept (tx_room a) a.tx

  pub kept_by : rx_kept ≡ true → tx_kept ≡ true → registers_sound a ≡ true → kept a ≡ true
  kept_by r t g = join rx_kept (tx_kept && registers_sound a) r (join tx_kept (registers_sound a) t g)

  pub rx-kept : kept a ≡ true → rx_kept ≡ true
  rx-kept k = (both rx_kept (tx_kept && registers_sound a) k).0

  pub tx-kept : kept a ≡ true → tx_kept ≡ true
  tx-kept k = (both tx_kept (registers_sound a) (both rx_kept (tx_kept && registers_sound a) k).1).0

  pub registers_kept : kept a ≡ true → registers_sound a ≡ true
  registers_kept k = (both tx_kept (registers_sound a) (both rx_kept (tx_kept && registers_sound a) k).1).1

  pub kept_of : sound a ≡ true → kept a ≡ true
  kept_of s = kept_by (kept-shown (rx_room a) a.rx (sound-told (rx_room a) a.rx (rx_of_lem s)).0) (txk.sound-kept (tx_room a) a.tx (tx_of_lem s)) (registers_of s)

-- ---- settle

-- What is kept is sound once it is settled.
pub settle-sound : (a : Adapter) → kept a ≡ true → sound (settle a) ≡ true
unfolding settle interrupting
settle-sound a k =
    sound_by (settle a) (rxk.settled_sound (rx_room a) a.rx (rx-kept a k)) (txk.settle-sound (tx_room a) a.tx (tx-kept a k)) (registers_kept a k)
    (settled (interrupting a.select (flags (settle_sides a))) a.lines.latch)

-- What is sound is settled already.
pub settle-stays : (a : Adapter) → sound a ≡ true → settle a ≡ a
unfolding settle
settle-stays a s =
    let e : settle_sides a ≡ a = λ j. with_tx (txk.settle-stays (tx_room a) a.tx (tx_of_lem a s) j) (with_rx (rxk.settled_same (rx_room a) a.rx (rx_of_lem a s) j) a) in
    ap with_latch e ∙ ap (λ (l : Bool). with_lines (lines_latch l a.lines) a) (stays (interrupting a.select (flags a)) a.lines.latch (latch_of a s))

-- ---- a sound card

module _ (c : Card) (ram dir : List ℕ) where
  pub rx_sound_is : Sound c ram dir → rx.Sound (rx_size_of c) c.receive ram dir
  unfolding view
  rx_sound_is s = record { small = rx-small (c.config.second % 4); packed = s.held.frames; calm = rx_of_lem (view c ram dir) s.calm }

  pub tx-sound : Sound c ram dir → tx.Sound (tx_size_of c) c.transmit ram dir
  unfolding view
  tx-sound s =
      record { small = tx-small (c.config.second % 4); packed = s.held.packets; stacked = s.held.statuses; calm = tx_of_lem (view c ram dir) s.calm }

  -- with a size that came from the configuration
  pub rx_sound_at : (size : ℕ) → size ≡ rx_size_of c → Sound c ram dir → rx.Sound size c.receive ram dir
  rx_sound_at size e s = subst⁻¹ (λ (n : ℕ). rx.Sound n c.receive ram dir) e (rx_sound_is s)

  pub tx_sound_at : (size : ℕ) → size ≡ tx_size_of c → Sound c ram dir → tx.Sound size c.transmit ram dir
  tx_sound_at size e s = subst⁻¹ (λ (n : ℕ). tx.Sound n c.transmit ram dir) e (tx-sound s)
