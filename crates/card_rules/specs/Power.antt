-- Power-on, and Global Reset. Assumes nothing.
use Rattle.std.specs.Prelude.{List, false, ℕ, get_or, replicate}
use Rattle.port_rules.specs.Card.{id_fresh}
use Rattle.receive_rules.specs.Reading.{rx_empty, deafened}
use Rattle.transmit_rules.specs.Tx.{tx_empty}
use Rattle.card_rules.specs.Adapter.{Adapter}

-- Power-on with these EEPROM words: inactive, window 0, masks and filter 0, the three thresholds 2,044.
-- Words 03h, 09h, 12h and 13h are loaded (word 08h by the ID state). `wire` is what the wire was doing.
unfoldable pub power_on : List ℕ → ℕ → Adapter
power_on words wire =
    record {
      id = id_fresh words;
      select = record { window = 0; mask = 0; zero = 0; filter = 0 };
      lines = record { latch = false; requested = false; low = 0 };
      config =
          record {
            product = get_or words 0x03 0;
            resource = get_or words 0x09 0;
            enabled = false;
            first = get_or words 0x12 0;
            second = get_or words 0x13 0;
            station = replicate 6 0;
          };
      prom = record { last = 0; writable = false };
      rx = rx_empty wire;
      tx = tx_empty;
    }

-- Global Reset returns to power-on; a frame on the wire is ignored to its end.
unfoldable pub reset : Adapter → Adapter
reset a = power_on a.id.words (deafened a.rx.receiver.wire)
