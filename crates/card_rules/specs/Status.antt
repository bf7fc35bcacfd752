-- The Status word, and what sets the latch. Assumes nothing.
use Rattle.std.specs.Prelude.{Bool, ◌&&◌, ◌||◌, ℕ, ◌+◌, ◌*◌}
use Rattle.bits.specs.Bits.{has, weigh}
use Rattle.receive_rules.specs.Reading.{complete}
use Rattle.transmit_rules.specs.Outcome.{some}
use Rattle.card_rules.specs.declared.Select.{Select}
use Rattle.card_rules.specs.declared.Flags.{Flags}
use Rattle.card_rules.specs.Adapter.{Adapter}

-- The two kinds of failure show as one bit.
abbrev pub failure : Adapter → Bool
failure a = a.rx.receiver.failed || a.tx.queue.failed

-- The flags of bits 0 to 6, which are the manual's; bit 7 reads 0.
abbrev pub flags : Adapter → Flags
flags a =
    record {
      latch = a.lines.latch;
      failed = failure a;
      completed = some a.tx.reports.statuses;
      available = a.tx.reports.sender.available;
      received = complete a.rx.frames;
      early = a.rx.receiver.early;
      requested = a.lines.requested;
    }

-- A 0 in the Read Zero mask hides that bit; the latch can't be hidden.
abbrev pub shows : ℕ → ℕ → Bool → Bool
shows weight visible flag = has weight visible && flag

abbrev pub low_bits : ℕ → Flags → ℕ
low_bits visible f =
    weigh 1 f.latch
    + weigh 2 (shows 2 visible f.failed)
    + weigh 4 (shows 4 visible f.completed)
    + weigh 8 (shows 8 visible f.available)
    + weigh 16 (shows 16 visible f.received)
    + weigh 32 (shows 32 visible f.early)
    + weigh 64 (shows 64 visible f.requested)

-- Bits 15-13 hold the window; bit 12 is 0, and so are 11 to 8.
unfoldable pub status_of : Select → Flags → ℕ
status_of s f = s.window * 8192 + low_bits s.zero f

abbrev pub status_word : Adapter → ℕ
status_word a = status_of a.select (flags a)

-- a flag that is in the interrupt mask and visible
abbrev pub rises : Select → ℕ → Bool → Bool
rises s weight flag = has weight s.mask && shows weight s.zero flag

-- a bit of 1 to 7 is visible and in the interrupt mask
unfoldable pub interrupting : Select → Flags → Bool
interrupting s f =
    rises s 2 f.failed
    || (rises s 4 f.completed
    || (rises s 8 f.available
    || (rises s 16 f.received
    || (rises s 32 f.early
    || rises s 64 f.requested))))
