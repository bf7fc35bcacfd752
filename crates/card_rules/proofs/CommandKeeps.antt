-- Every effect on a sound adapter keeps what settle needs. Assumes nothing.
use mathlib.Core.Path.{◌≡◌, refl}
use mathlib.Core.Bool.{Bool, true, false, not, ◌&&◌}
use mathlib.Core.List.{List}
use Prim.Native.Nat.{ℕ, ◌/◌, ◌%◌, ◌≤◌, ◌<◌}
use native.Mathlib.Omega.{arith}
use borrow.Author.Tests.{le-leb, eq-eqb, ltb-false}
use lib.Dec.{ltb, leb, eqb, lit≤}
use Rattle.bits.specs.Bits.{has}
use Rattle.bits.proofs.Tests.{both, join, of_cond, of_test}
use Rattle.port_rules.specs.declared.IdState.{IdState}
use Rattle.port_rules.specs.Sound.{id_sound}
use Rattle.receive_rules.specs.Frame.{Rx}
use Rattle.receive_rules.specs.Sound as rxs
use Rattle.receive_rules.specs.Reading as reading
use Rattle.receive_rules.specs.Reading.{rx_empty, deafened, early_least}
use Rattle.receive_rules.specs.Update.{with_on, with_threshold, with_receiver}
use Rattle.receive_rules.proofs.Facts.{sound-told, kept-shown}
use Rattle.receive_rules.proofs.Keeps as rxk
use Rattle.transmit_rules.specs.Reports.{Reports}
use Rattle.transmit_rules.specs.Outcome as outcome
use Rattle.transmit_rules.proofs.OutcomesKeeps.{off-keeps, enable-keeps, set_level_keeps, set-start-keeps}
use Rattle.transmit_rules.specs.Tx as txs
use Rattle.transmit_rules.specs.Tx.{Tx, tx_empty}
use Rattle.transmit_rules.proofs.Keeps as txk
use Rattle.card_rules.specs.declared.Select.{Select}
use Rattle.card_rules.specs.Adapter.{Adapter}
use Rattle.card_rules.specs.Update.{with_id, with_select, with_rx, with_tx, select_window, select_mask, select_zero, select_filter}
use Rattle.card_rules.specs.Room.{rx_room, tx_room}
use Rattle.card_rules.specs.Power.{power_on, reset}
use Rattle.card_rules.specs.Sound.{is_mask, select_sound, kept, sound}
use Rattle.card_rules.proofs.Sides.{rx_of_lem, tx_of_lem, registers_of, kept_by, kept_of, rx-kept, tx-kept, registers_kept, identified, idle, selected}
use Rattle.card_rules.specs.Command.{reported, receiving, rx_reset, acknowledge, mask, early_threshold, act, command, commanded}

-- what is kept, as a fact that a chain of tests passes on
pub record Keeping (b : Adapter) : Type 0 where
  pub is : kept b ≡ true

-- ---- the registers' ranges

module _ (s : Select) (h : select_sound s ≡ true) where
  abbrev masks : Bool
  masks = is_mask s.mask && (is_mask s.zero && leb s.filter 15)

  window_ok : leb s.window 7 ≡ true
  unfolding select_sound
  window_ok = (both (leb s.window 7) masks h).0

  mask_ok : is_mask s.mask ≡ true
  unfolding select_sound
  mask_ok = (both (is_mask s.mask) (is_mask s.zero && leb s.filter 15) (both (leb s.window 7) masks h).1).0

  zero_ok : is_mask s.zero ≡ true
  unfolding select_sound
  zero_ok = (both (is_mask s.zero) (leb s.filter 15) (both (is_mask s.mask) (is_mask s.zero && leb s.filter 15) (both (leb s.window 7) masks h).1).1).0

  filter_ok : leb s.filter 15 ≡ true
  unfolding select_sound
  filter_ok = (both (is_mask s.zero) (leb s.filter 15) (both (is_mask s.mask) (is_mask s.zero && leb s.filter 15) (both (leb s.window 7) masks h).1).1).1

select_by : (s : Select) → leb s.window 7 ≡ true → is_mask s.mask ≡ true → is_mask s.zero ≡ true → leb s.filter 15 ≡ true → select_sound s ≡ true
unfolding select_sound
select_by s w m z f = rw (w, f) (join (is_mask s.mask) (is_mask s.zero && true) m (join (is_mask s.zero) true z refl))

is_mask_lem : (x : ℕ) → is_mask (mask x) ≡ true
is_mask_lem x = join (leb (mask x) 254) (eqb (mask x % 2) 0) (le-leb (mask x) 254 (omega arith)) (eq-eqb (mask x % 2) 0 (omega arith))

early_between : (x : ℕ) → x ≤ 2047 → (early_least ≤ early_threshold x) × (early_threshold x ≤ 2047)
early_between x h = of_test (λ (n : ℕ). (early_least ≤ n) × (n ≤ 2047)) (ltb x early_least) (λ _. (lit≤ tt, lit≤ tt)) (λ e. (ltb-false x early_least e, h))

module _ (a : Adapter) (s : sound a ≡ true) where
  -- ---- one group changed

  k : kept a ≡ true
  k = kept_of a s

  pub select_kept : (v : Select) → select_sound v ≡ true → kept (with_select v a) ≡ true
  select_kept v h = kept_by (with_select v a) (rx-kept a k) (tx-kept a k) (join (id_sound a.id) (not a.id.due && select_sound v) (identified a s) (join (not a.id.due) (select_sound v) (idle a s) h))

  pub id-kept : (v : IdState) → id_sound v ≡ true → not v.due ≡ true → kept (with_id v a) ≡ true
  id-kept v h d = kept_by (with_id v a) (rx-kept a k) (tx-kept a k) (join (id_sound v) (not v.due && select_sound a.select) h (join (not v.due) (select_sound a.select) d (selected a s)))

  pub rx_changed : (x : Rx) → rxs.kept (rx_room a) x ≡ true → kept (with_rx x a) ≡ true
  rx_changed x h = kept_by (with_rx x a) h (tx-kept a k) (registers_kept a k)

  pub tx_changed : (x : Tx) → txs.kept (tx_room a) x ≡ true → kept (with_tx x a) ≡ true
  tx_changed x h = kept_by (with_tx x a) (rx-kept a k) h (registers_kept a k)

  pub wire-small : a.rx.receiver.wire ≤ 2
  wire-small = (sound-told (rx_room a) a.rx (rx_of_lem a s)).0.wire

-- ---- power-on

pub power_on_kept : (words : List ℕ) (wire : ℕ) → wire < 2 → kept (power_on words wire) ≡ true
unfolding power_on select_sound id_sound
power_on_kept words wire w =
    let a = power_on words wire in
    kept_by a (kept-shown (rx_room a) (rx_empty wire) (sound-told (rx_room a) (rx_empty wire) (rxk.empty-sound (rx_room a) wire 2044 false false w (lit≤ tt, lit≤ tt))).0)
    (txk.sound-kept (tx_room a) tx_empty (txk.power_on_sound (tx_room a))) refl

module _ (a : Adapter) (s : sound a ≡ true) where
  pub reset-keeps : kept (reset a) ≡ true
  unfolding reset
  reset-keeps = power_on_kept a.id.words (deafened a.rx.receiver.wire) (rxk.deafened-quiet a.rx.receiver.wire (wire-small a s))

  -- ---- the commands; x is the argument, below 2,048

  pub reported-keeps : (g : Reports → Reports) → ((r : Reports) → outcome.filled r ≡ true → outcome.filled (g r) ≡ true) → kept (reported g a) ≡ true
  reported-keeps g h = tx_changed a s (txs.with_reports (g a.tx.reports) a.tx) (txk.reports-kept g h (tx_room a) a.tx (txk.sound-kept (tx_room a) a.tx (tx_of_lem a s)))

  on-kept : (v : Bool) → kept (receiving v a) ≡ true
  on-kept v = rx_changed a s (with_receiver (with_on v a.rx.receiver) a.rx) (rxk.on-kept (rx_room a) a.rx (rx_of_lem a s) v)

  -- RX Reset restores the filter, and leaves a side that is kept
  rx-reset-kept : kept (rx_reset a) ≡ true
  rx-reset-kept =
      let g : select_sound (select_filter 0 a.select) ≡ true = select_by (select_filter 0 a.select) (window_ok a.select (selected a s)) (mask_ok a.select (selected a s)) (zero_ok a.select (selected a s)) refl in
      kept_by (rx_reset a) (rxk.reset-kept (rx_room a) a.rx (wire-small a s)) (tx-kept a (k a s))
      (join (id_sound a.id) (not a.id.due && select_sound (select_filter 0 a.select)) (identified a s) (join (not a.id.due) (select_sound (select_filter 0 a.select)) (idle a s) g))

  acknowledge-kept : (x : ℕ) → kept (acknowledge x a) ≡ true
  unfolding acknowledge
  acknowledge-kept x =
      kept_by (acknowledge x a) (rxk.early_kept (rx_room a) a.rx (rx_of_lem a s) (not (has 32 x)))
      (txk.acknowledge-kept (has 8 x) (tx_room a) a.tx (txk.sound-kept (tx_room a) a.tx (tx_of_lem a s))) (registers_of a s)

  window-kept : (x : ℕ) → kept (with_select (select_window (x % 8) a.select) a) ≡ true
  window-kept x = select_kept a s (select_window (x % 8) a.select) (select_by (select_window (x % 8) a.select) (le-leb (x % 8) 7 (omega arith)) (mask_ok a.select (selected a s)) (zero_ok a.select (selected a s)) (filter_ok a.select (selected a s)))

  mask-kept : (x : ℕ) → kept (with_select (select_mask (mask x) a.select) a) ≡ true
  mask-kept x = select_kept a s (select_mask (mask x) a.select) (select_by (select_mask (mask x) a.select) (window_ok a.select (selected a s)) (is_mask_lem x) (zero_ok a.select (selected a s)) (filter_ok a.select (selected a s)))

  zero_kept : (x : ℕ) → kept (with_select (select_zero (mask x) a.select) a) ≡ true
  zero_kept x = select_kept a s (select_zero (mask x) a.select) (select_by (select_zero (mask x) a.select) (window_ok a.select (selected a s)) (mask_ok a.select (selected a s)) (is_mask_lem x) (filter_ok a.select (selected a s)))

  filter-kept : (x : ℕ) → kept (with_select (select_filter (x % 16) a.select) a) ≡ true
  filter-kept x = select_kept a s (select_filter (x % 16) a.select) (select_by (select_filter (x % 16) a.select) (window_ok a.select (selected a s)) (mask_ok a.select (selected a s)) (zero_ok a.select (selected a s)) (le-leb (x % 16) 15 (omega arith)))

  early_kept : (x : ℕ) → x ≤ 2047 → kept (with_rx (with_receiver (with_threshold (early_threshold x) a.rx.receiver) a.rx) a) ≡ true
  early_kept x h =
      rx_changed a s (with_receiver (with_threshold (early_threshold x) a.rx.receiver) a.rx) (rxk.threshold_kept (rx_room a) a.rx (rx_of_lem a s) (early_threshold x) (early_between x h))

  act-keeps : (n x : ℕ) → x ≤ 2047 → Keeping (act n x a)
  unfolding act
  act-keeps n x h =
      of_cond Keeping (eqb n 0) (record { is = reset-keeps })
      (of_cond Keeping (eqb n 1) (record { is = window-kept x })
      (of_cond Keeping (eqb n 3) (record { is = on-kept false })
      (of_cond Keeping (eqb n 4) (record { is = on-kept true })
      (of_cond Keeping (eqb n 5) (record { is = rx-reset-kept })
      (of_cond Keeping (eqb n 9) (record { is = reported-keeps outcome.enable enable-keeps })
      (of_cond Keeping (eqb n 10) (record { is = reported-keeps outcome.off off-keeps })
      (of_cond Keeping (eqb n 11) (record { is = tx_changed a s (txs.tx_reset a.tx) (txk.reset-kept (tx_room a) a.tx (txk.sound-kept (tx_room a) a.tx (tx_of_lem a s))) })
      (of_cond Keeping (eqb n 12) (record { is = k a s })
      (of_cond Keeping (eqb n 13) (record { is = acknowledge-kept x })
      (of_cond Keeping (eqb n 14) (record { is = mask-kept x })
      (of_cond Keeping (eqb n 15) (record { is = zero_kept x })
      (of_cond Keeping (eqb n 16) (record { is = filter-kept x })
      (of_cond Keeping (eqb n 17) (record { is = early_kept x h })
      (of_cond Keeping (eqb n 18) (record { is = reported-keeps (outcome.set_level x) (λ r. set_level_keeps x r h) })
      (of_cond Keeping (eqb n 19) (record { is = reported-keeps (outcome.set_start x) (λ r. set-start-keeps x r h) })
      (record { is = k a s }))))))))))))))))

  command-keeps : (n x : ℕ) → x ≤ 2047 → Keeping (command n x a)
  unfolding command
  command-keeps n x h =
      of_cond Keeping (eqb n 8) (record { is = rx_changed a s (reading.discard a.rx) (rxk.discard-kept (rx_room a) a.rx (rx_of_lem a s)) }) (act-keeps n x h)

  -- A write of the Command register keeps what settle needs.
  pub commanded-keeps : (v : ℕ) → Keeping (commanded v a)
  unfolding commanded
  commanded-keeps v =
      of_cond Keeping (not (eqb (v / 2048) 1) && eqb a.select.window 0) (record { is = k a s }) (command-keeps (v / 2048) (v % 2048) (omega arith))
