-- How a step ends: the flags, settle, and the test of soundness. Assumes nothing.
use mathlib.Core.Path.{◌≡◌, ap, subst, ◌∙◌}
use mathlib.Core.Bool.{Bool, true, ◌||◌}
use mathlib.Core.List.{List}
use Prim.Native.Nat.{ℕ, ◌%◌}
use Rattle.receive_rules.specs.declared.Receive.{Receive}
use Rattle.receive_rules.specs.Reading.{complete}
use Rattle.receive_rules.specs.Early.{settle_early}
use Rattle.receive_rules.specs.View as rx
use Rattle.receive_rules.proofs.Settled.{settled_sound}
use Rattle.receive_rules.proofs.Steps.{step-sound}
use Rattle.transmit_rules.specs.Outcome.{some}
use Rattle.transmit_rules.specs.OutcomesView.{stack}
use Rattle.transmit_rules.specs.declared.Transmit.{Transmit}
use Rattle.transmit_rules.specs.Tx as txs
use Rattle.transmit_rules.specs.View as tx
use Rattle.card_rules.specs.declared.Card.{Card}
use Rattle.card_rules.specs.declared.Flags.{Flags}
use Rattle.card_rules.specs.Update.{with_tx, with_lines, lines_latch}
use Rattle.card_rules.specs.Status.{flags, interrupting}
use Rattle.card_rules.specs.Settle.{settle, with_latch}
use Rattle.card_rules.specs.Sound.{kept, sound}
use Rattle.card_rules.specs.Groups.{card_receive, card_transmit, card_lines}
use Rattle.card_rules.specs.View.{rx_size_of, tx_size_of, view, Held, SettlesSides, Stands}
use Rattle.card_rules.proofs.Ranges.{rx-small}
use Rattle.card_rules.proofs.Groups.{is_lines}
use Rattle.card_rules.proofs.Join.{is_rx, is_tx}
use Rattle.card_rules.proofs.Sides.{rx-kept, settle-sound}

module _ (c : Card) (ram dir : List ℕ) where
  -- ---- the flags

  pub flags_are : (size : ℕ) (received completed : Bool) → size ≡ rx_size_of c → received ≡ complete (rx.frames_of size c.receive.frames ram dir)
      → completed ≡ some (stack c.transmit.outcomes.statuses)
      → ◌≡◌ {A = Flags}
      (record {
        latch = c.lines.latch;
        failed = c.receive.receiver.failed || c.transmit.fifo.failed;
        completed = completed;
        available = c.transmit.outcomes.sender.available;
        received = received;
        early = c.receive.receiver.early;
        requested = c.lines.requested;
      })
      (flags (view c ram dir))
  unfolding view
  flags_are size received completed e r s =
      rw (s, r, e)

  -- ---- settle

  pub sides_settle : (rs ts : ℕ) (r : Receive) (t : Transmit) → rs ≡ rx_size_of c → ts ≡ tx_size_of c → Held c ram dir → kept (view c ram dir) ≡ true
      → rx.Step rs r ram dir ram dir (settle_early (rx.rx_of rs c.receive ram dir))
      → tx.Step ts t ram dir ram dir (txs.settle ts (tx.tx_of ts c.transmit ram dir))
      → SettlesSides c (card_transmit t (card_receive r c)) ram dir
  unfolding view
  sides_settle rs ts r t er et h k sr st =
      let a = view c ram dir in
      let d = card_receive r c in
      let sr' : rx.Step (rx_size_of c) r ram dir ram dir (settle_early a.rx) = subst (λ (n : ℕ). rx.Step n r ram dir ram dir (settle_early (rx.rx_of n c.receive ram dir))) er sr in
      let st' : tx.Step (tx_size_of c) t ram dir ram dir (txs.settle (tx_size_of c) a.tx) = subst (λ (n : ℕ). tx.Step n t ram dir ram dir (txs.settle n (tx.tx_of n c.transmit ram dir))) et st in
      let ir = is_rx c ram dir ram dir h r (settle_early a.rx) sr' in
      let it = is_tx d ram dir ram dir ir.held t (txs.settle (tx_size_of c) a.tx) st' in
      record {
        shows = it.shows ∙ ap (with_tx (txs.settle (tx_size_of c) a.tx)) ir.shows;
        held = it.held;
        rx_sound_is = step-sound (rx_size_of c) r ram dir ram dir (settle_early a.rx) (rx-small (c.config.second % 4)) sr' (settled_sound (rx_size_of c) a.rx (rx-kept a k));
      }

  pub settles : (d : Card) (f : Flags) (i : Bool) → kept (view c ram dir) ≡ true → SettlesSides c d ram dir → f ≡ flags (view d ram dir) → i ≡ interrupting d.select f
      → Stands (card_lines (lines_latch (i || d.lines.latch) d.lines) d) ram dir (settle (view c ram dir))
  unfolding view settle
  settles d f i k s ef ei =
      let l = is_lines d ram dir s.held (lines_latch (i || d.lines.latch) d.lines) in
      let e : i ≡ interrupting d.select (flags (view d ram dir)) = ei ∙ ap (interrupting d.select) ef in
      let shown : view (card_lines (lines_latch (i || d.lines.latch) d.lines) d) ram dir ≡ settle (view c ram dir) =
      l.shows ∙ ap (λ (j : Bool). with_lines (lines_latch (j || d.lines.latch) d.lines) (view d ram dir)) e ∙ ap with_latch s.shows in
      record { shows = shown; sound = record { held = l.held; calm = ap sound shown ∙ settle-sound (view c ram dir) k } }
