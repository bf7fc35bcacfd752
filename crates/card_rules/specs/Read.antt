-- The register map: what a word read gives, window by window (the manual's Window Set chapter). Assumes nothing.
use Rattle.std.specs.Prelude.{List, cond, ◌&&◌, ℕ, ◌+◌, ◌*◌, ◌-◌, get_or, ltb, eqb}
use Rattle.bits.specs.Bits.{has, weigh}
use Rattle.receive_rules.specs.Reading.{rx_status, rx_free, data_word, after_read}
use Rattle.transmit_rules.specs.Outcome.{top, fours}
use Rattle.card_rules.specs.Adapter.{Adapter}
use Rattle.card_rules.specs.Update.{with_rx}
use Rattle.card_rules.specs.Room.{rx_room, tx_free}
use Rattle.card_rules.specs.Status.{status_word}

-- Window 0: Manufacturer ID; Product ID; Configuration Control (ISA, normal operation, on-chip VCO, and ENA); Address Configuration;
-- Resource Configuration; the tag and the last EEPROM command; EEPROM data.
unfoldable pub window0 : ℕ → Adapter → ℕ
window0 o a =
    cond (eqb o 0x00) 0x6D50
    (cond (eqb o 0x02) a.config.product
    (cond (eqb o 0x04) (0x4D00 + weigh 1 a.config.enabled)
    (cond (eqb o 0x06) a.id.address
    (cond (eqb o 0x08) a.config.resource
    (cond (eqb o 0x0A) (a.id.tag * 256 + a.prom.last)
    (cond (eqb o 0x0C) a.id.shift 0))))))

-- Window 1: the data port at 00h and 02h; RX Status; TX Status in the high byte; TX Free, cut to a multiple of 4.
unfoldable pub window1 : ℕ → Adapter → ℕ
window1 o a =
    cond (ltb o 0x04) (data_word a.rx)
    (cond (eqb o 0x08) (rx_status a.rx.receiver.read a.rx.frames)
    (cond (eqb o 0x0A) (top a.tx.reports.statuses * 256)
    (cond (eqb o 0x0C) (fours (tx_free a)) 0)))

abbrev pub pair_at : ℕ → List ℕ → ℕ
pair_at o bs = get_or bs (o + 1) 0 * 256 + get_or bs o 0

-- Window 2: the station address.
unfoldable pub window2 : ℕ → Adapter → ℕ
window2 o a = cond (ltb o 0x06) (pair_at o a.config.station) 0

-- Window 3: the Internal Configuration words (bit 3 of the first reads 0); RX Free; the exact TX Free.
unfoldable pub window3 : ℕ → Adapter → ℕ
window3 o a =
    cond (eqb o 0x00) (a.config.first - weigh 8 (has 8 a.config.first))
    (cond (eqb o 0x02) a.config.second
    (cond (eqb o 0x0A) (rx_free (rx_room a) a.rx.frames)
    (cond (eqb o 0x0C) (tx_free a) 0)))

-- Window 5: TX Start, TX Available, RX Early, RX filter, interrupt mask, Read Zero mask.
unfoldable pub window5 : ℕ → Adapter → ℕ
window5 o a =
    cond (eqb o 0x00) a.tx.reports.sender.start
    (cond (eqb o 0x02) a.tx.reports.sender.level
    (cond (eqb o 0x06) a.rx.receiver.threshold
    (cond (eqb o 0x08) a.select.filter
    (cond (eqb o 0x0A) a.select.mask
    (cond (eqb o 0x0C) a.select.zero 0)))))

-- Status is at offset 0Eh in all windows. Windows 4, 6, 7 read 0.
unfoldable pub word_at : ℕ → Adapter → ℕ
word_at o a =
    cond (eqb o 0x0E) (status_word a)
    (cond (eqb a.select.window 0) (window0 o a)
    (cond (eqb a.select.window 1) (window1 o a)
    (cond (eqb a.select.window 2) (window2 o a)
    (cond (eqb a.select.window 3) (window3 o a)
    (cond (eqb a.select.window 5) (window5 o a) 0)))))

-- What a word read changes: a read of the data port takes a word.
unfoldable pub after_word : ℕ → Adapter → Adapter
after_word o a = cond (ltb o 0x04 && eqb a.select.window 1) (with_rx (after_read a.rx) a) a
