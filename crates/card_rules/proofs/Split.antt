-- The second Internal Configuration word: with a FIFO in use the split stays, and with none a card holds nothing that another split could move.
-- Assumes nothing.
use mathlib.Core.Path.{◌≡◌, refl, sym, ap₂, ◌∙◌}
use mathlib.Core.Bool.{Bool, true, false, ◌||◌}
use mathlib.Core.List.{List, [], ◌∷◌}
use Prim.Native.Nat.{ℕ, zero, suc, ◌+◌, ◌*◌, ◌/◌, ◌%◌}
use native.Mathlib.Omega.{arith}
use borrow.Author.Tests.{lt-ltb, ltb-false}
use lib.Dec.{ltb}
use lib.ListN.{length}
use Rattle.bits.proofs.Tests.{neither}
use Rattle.store.specs.Store as store
use Rattle.receive_rules.specs.Frame.{Frame, Rx}
use Rattle.receive_rules.proofs.Order.{frames-counted}
use Rattle.receive_rules.proofs.Steps.{resized_same}
use Rattle.transmit_rules.specs.Queue.{Queue}
use Rattle.transmit_rules.proofs.Facts.{words_of}
use Rattle.transmit_rules.proofs.Apart.{idle-packed, idle-queue}
use Rattle.transmit_rules.specs.OutcomesView.{reports_of}
use Rattle.transmit_rules.specs.Tx.{any}
use Rattle.transmit_rules.proofs.Steps.{any_of}
use Rattle.card_rules.specs.declared.Config.{Config}
use Rattle.card_rules.specs.declared.Card.{Card}
use Rattle.card_rules.specs.Update.{with_config, with_rx, with_tx, config_second}
use Rattle.card_rules.specs.Room.{rx_size, tx_size}
use Rattle.card_rules.specs.Groups.{card_config}
use Rattle.card_rules.specs.View.{rx_size_of, tx_size_of, view, Held, Is}
use Rattle.card_rules.proofs.Ranges.{tx-small}
use Rattle.card_rules.proofs.Blank.{frames-packed}
use Rattle.card_rules.proofs.Groups.{is_config}
use Rattle.card_rules.specs.Write.{in_use, resplit}

-- ---- the counts say whether a FIFO is in use

used : (fs : List Frame) (ps : List store.Frame) (k : ℕ) → in_use fs ps k ≡ ((ltb 0 (length fs) || any ps) || ltb 0 k)
unfolding in_use any
used [] [] zero = refl
used [] [] (suc k) = sym (lt-ltb 0 (suc k) (omega arith))
used [] (p ∷ ps) k = refl
used (f ∷ fs) ps k = rw (lt-ltb 0 (suc (length fs)) (omega arith))

-- a frame, a packet or a word of one is counted
abbrev pub counted : Card → Bool
counted c = (ltb 0 c.receive.frames || ltb 0 c.transmit.fifo.packets) || ltb 0 c.transmit.fifo.words

none : (n : ℕ) → ltb 0 n ≡ false → n ≡ 0
none n e = omega (arith, ltb-false 0 n e)

record Unused (c : Card) : Type 0 where
  pub frames : c.receive.frames ≡ 0
  pub packets : c.transmit.fifo.packets ≡ 0
  pub words : c.transmit.fifo.words ≡ 0

unused : (c : Card) → counted c ≡ false → Unused c
unused c e =
    let p = neither (ltb 0 c.receive.frames || ltb 0 c.transmit.fifo.packets) (ltb 0 c.transmit.fifo.words) e in
    let q = neither (ltb 0 c.receive.frames) (ltb 0 c.transmit.fifo.packets) p.0 in
    record { frames = none _ q.0; packets = none _ q.1; words = none _ p.1 }

module _ (c : Card) (ram dir : List ℕ) (h : Held c ram dir) where
  in_use_lem : in_use (view c ram dir).rx.frames (view c ram dir).tx.queue.packets (view c ram dir).tx.queue.part.words ≡ counted c
  unfolding view
  in_use_lem =
      used (view c ram dir).rx.frames (view c ram dir).tx.queue.packets (view c ram dir).tx.queue.part.words
      ∙ rw (
        frames-counted (rx_size_of c) c.receive.frames ram dir h.frames,
        any_of (tx_size_of c) c.transmit.fifo.packets ram dir h.packets,
        words_of (tx_size_of c) c.transmit.fifo.packets c.transmit.fifo.words ram dir,
      )

  -- any configuration, while no FIFO is in use
  is_config_unused : Unused c → (v : Config) → Is (card_config v c) ram dir (with_config v (view c ram dir))
  unfolding view
  is_config_unused u v =
      let new : ℕ = v.second % 4 in
      record {
        shows =
            ap₂ (λ (x : Rx) (q : Queue). with_config v (with_tx (record { queue = q; reports = reports_of c.transmit.outcomes }) (with_rx x (view c ram dir))))
            (resized_same (rx_size_of c) (rx_size new) c.receive ram dir u.frames)
            (idle-queue (tx_size new) c.transmit.fifo ram dir u.packets u.words
            ∙ sym (idle-queue (tx_size_of c) c.transmit.fifo ram dir u.packets u.words));
        held =
            record {
              ram_long = h.ram_long;
              dir_long = h.dir_long;
              frames = rw u.frames (frames-packed new ram dir h.ram_long h.dir_long);
              packets = idle-packed (tx_size new) c.transmit.fifo ram dir u.packets (tx-small new) (omega (arith, h.ram_long)) (omega (arith, h.dir_long));
              statuses = h.statuses;
            };
      }

  -- ---- the word, as it is left

  module _ (v : ℕ) where
    pub is_kept_lem : counted c ≡ true
        → Is (card_config (config_second (v / 4 * 4 + c.config.second % 4) c.config) c) ram dir (resplit v (view c ram dir))
    unfolding view resplit
    is_kept_lem e = rw (in_use_lem ∙ e) (is_config c ram dir h _ (omega arith))

    pub is_split : counted c ≡ false → Is (card_config (config_second v c.config) c) ram dir (resplit v (view c ram dir))
    unfolding view resplit
    is_split e = rw (in_use_lem ∙ e) (is_config_unused (unused c e) _)
