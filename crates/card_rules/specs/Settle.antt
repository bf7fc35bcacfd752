-- What every step ends with: RX Early, then TX Available, then the latch. Assumes nothing.
use Rattle.std.specs.Prelude.{◌||◌}
use Rattle.receive_rules.specs.Early.{settle_early}
use Rattle.transmit_rules.specs.Tx as tx
use Rattle.card_rules.specs.Adapter.{Adapter}
use Rattle.card_rules.specs.Update.{with_lines, with_rx, with_tx, lines_latch}
use Rattle.card_rules.specs.Room.{tx_room}
use Rattle.card_rules.specs.Status.{flags, interrupting}

-- After each step the latch is set if a bit of 1 to 7 is visible and in the interrupt mask.
abbrev pub with_latch : Adapter → Adapter
with_latch a = with_lines (lines_latch (interrupting a.select (flags a) || a.lines.latch) a.lines) a

abbrev pub settle_sides : Adapter → Adapter
settle_sides a = with_tx (tx.settle (tx_room a) a.tx) (with_rx (settle_early a.rx) a)

unfoldable pub settle : Adapter → Adapter
settle a = with_latch (settle_sides a)
