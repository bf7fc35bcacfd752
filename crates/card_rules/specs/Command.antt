-- The commands, in document 01's order. Assumes nothing.
use Rattle.std.specs.Prelude.{Bool, true, false, cond, not, ◌&&◌, ℕ, ◌*◌, ◌/◌, ◌%◌, ltb, eqb}
use Rattle.bits.specs.Bits.{has}
use Rattle.receive_rules.specs.Reading as reading
use Rattle.receive_rules.specs.Reading.{early_least}
use Rattle.receive_rules.specs.Update.{with_on, with_early, with_threshold, with_receiver}
use Rattle.transmit_rules.specs.Reports.{Reports}
use Rattle.transmit_rules.specs.Outcome as outcome
use Rattle.transmit_rules.specs.Tx as tx
use Rattle.card_rules.specs.Adapter.{Adapter}
use Rattle.card_rules.specs.Update.{with_select, with_lines, with_rx, with_tx, select_window, select_mask, select_zero, select_filter, lines_requested}
use Rattle.card_rules.specs.Power.{reset}

-- ---- what each command does; x is its argument

abbrev pub reported : (Reports → Reports) → Adapter → Adapter
reported f a = with_tx (tx.with_reports (f a.tx.reports) a.tx) a

abbrev pub receiving : Bool → Adapter → Adapter
receiving v a = with_rx (with_receiver (with_on v a.rx.receiver) a.rx) a

-- RX Reset restores the filter too.
abbrev pub rx_reset : Adapter → Adapter
rx_reset a = with_select (select_filter 0 a.select) (with_rx (reading.rx_reset a.rx) a)

abbrev pub tx_reset : Adapter → Adapter
tx_reset a = with_tx (tx.tx_reset a.tx) a

-- Acknowledge clears bits 0, 3, 5, 6 as named.
unfoldable pub acknowledge : ℕ → Adapter → Adapter
acknowledge x a =
    with_lines (record { latch = not (has 1 x) && a.lines.latch; requested = not (has 64 x) && a.lines.requested; low = a.lines.low })
    (with_rx (with_receiver (with_early (not (has 32 x) && a.rx.receiver.early) a.rx.receiver.told a.rx.receiver) a.rx)
    (reported (outcome.acknowledge (has 8 x)) a))

-- A mask has eight bits, and bit 0 is dropped.
abbrev pub mask : ℕ → ℕ
mask x = x % 256 / 2 * 2

-- The threshold of RX Early is the larger of 8 and the argument.
abbrev pub early_threshold : ℕ → ℕ
early_threshold x = cond (ltb x early_least) early_least x

-- ---- by number; numbers that are not here do nothing

-- The commands that touch registers alone.
unfoldable pub act : ℕ → ℕ → Adapter → Adapter
act n x a =
    cond (eqb n 0) (reset a)
    (cond (eqb n 1) (with_select (select_window (x % 8) a.select) a)
    (cond (eqb n 3) (receiving false a)
    (cond (eqb n 4) (receiving true a)
    (cond (eqb n 5) (rx_reset a)
    (cond (eqb n 9) (reported outcome.enable a)
    (cond (eqb n 10) (reported outcome.off a)
    (cond (eqb n 11) (tx_reset a)
    (cond (eqb n 12) (with_lines (lines_requested true a.lines) a)
    (cond (eqb n 13) (acknowledge x a)
    (cond (eqb n 14) (with_select (select_mask (mask x) a.select) a)
    (cond (eqb n 15) (with_select (select_zero (mask x) a.select) a)
    (cond (eqb n 16) (with_select (select_filter (x % 16) a.select) a)
    (cond (eqb n 17) (with_rx (with_receiver (with_threshold (early_threshold x) a.rx.receiver) a.rx) a)
    (cond (eqb n 18) (reported (outcome.set_level x) a)
    (cond (eqb n 19) (reported (outcome.set_start x) a)
    a)))))))))))))))

-- RX Discard moves frames.
abbrev pub discard : Adapter → Adapter
discard a = with_rx (reading.discard a.rx) a

unfoldable pub command : ℕ → ℕ → Adapter → Adapter
command n x a = cond (eqb n 8) (discard a) (act n x a)

-- A command is a number in bits 15-11 with an argument below. In window 0 only Select Window acts.
unfoldable pub commanded : ℕ → Adapter → Adapter
commanded v a = cond (not (eqb (v / 2048) 1) && eqb a.select.window 0) a (command (v / 2048) (v % 2048) a)
