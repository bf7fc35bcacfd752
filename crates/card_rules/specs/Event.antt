-- What the wire, the transmitter and the ID port do to the card; every step ends with settle. Assumes nothing.
use Rattle.std.specs.Prelude.{List, Bool, ℕ}
use Rattle.port_rules.specs.declared.IdState.{IdState}
use Rattle.receive_rules.specs.Wire as wire
use Rattle.transmit_rules.specs.Tx as tx
use Rattle.card_rules.specs.Adapter.{Adapter}
use Rattle.card_rules.specs.Update.{with_rx, with_tx}
use Rattle.card_rules.specs.Room.{rx_room}
use Rattle.card_rules.specs.Settle.{settle}
-- whether a frame is taken, and a seated ID state
pub use Rattle.card_rules.specs.Effect.{taken}
unfoldable pub use Rattle.card_rules.specs.Seat.{seated}

unfoldable pub wire_start : List ℕ → Adapter → Adapter
wire_start first a = settle (with_rx (wire.wire_start (rx_room a) (taken first a) first a.rx) a)

unfoldable pub wire_byte : ℕ → Adapter → Adapter
wire_byte b a = settle (with_rx (wire.wire_byte (rx_room a) b a.rx) a)

unfoldable pub wire_end : Bool → Bool → Adapter → Adapter
wire_end check alignment a = settle (with_rx (wire.wire_end check alignment a.rx) a)

unfoldable pub success : Adapter → Adapter
success a = settle (with_tx (tx.success a.tx) a)

unfoldable pub collisions : Adapter → Adapter
collisions a = settle (with_tx (tx.collisions a.tx) a)

unfoldable pub seat : IdState → Adapter → Adapter
seat i a = settle (seated i a)
