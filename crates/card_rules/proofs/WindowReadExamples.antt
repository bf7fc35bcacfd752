-- Registers read from a card, computed: the manual's Window Set chapter. Assumes nothing.
use mathlib.Core.Path.{◌≡◌, refl}
use mathlib.Core.Bool.{false}
use mathlib.Core.List.{[]}
use Prim.Native.Nat.{ℕ, ◌+◌}
use Rattle.transmit_rules.specs.Queue.{free, room}
use Rattle.transmit_rules.specs.Outcome.{set_level, set_start}
use Rattle.card_rules.specs.Adapter.{Adapter}
use Rattle.card_rules.specs.Update.{with_select, with_config, with_tx, select_window, config_first}
use Rattle.card_rules.specs.Room.{tx_size}
use Rattle.card_rules.specs.Power.{power_on}
use Rattle.card_rules.specs.Command.{commanded, command, act}
use Rattle.card_rules.specs.Read.{window0, window1, window3, window5, word_at}

-- the word at an offset of a window
reads : ℕ → ℕ → Adapter → ℕ
reads window o a = word_at o (with_select (select_window window a.select) a)

-- window 0 begins with the Manufacturer ID
manufacturer : reads 0 0x00 (power_on [] 0) ≡ 0x6D50
unfolding reads word_at window0 power_on
manufacturer = refl

-- TX Start, at 00h of window 5, is 256; TX Available, at 02h, is 512
thresholds : Adapter
thresholds = let a = power_on [] 0 in with_tx (record { queue = a.tx.queue; reports = set_level 512 (set_start 256 a.tx.reports) }) a

start_256 : reads 5 0x00 thresholds ≡ 256
unfolding reads thresholds word_at window5 power_on
start_256 = refl

available_512 : reads 5 0x02 thresholds ≡ 512
unfolding reads thresholds word_at window5 power_on
available_512 = refl

-- each register of window 5 after its command, and no other: the argument's bits that it keeps
after : ℕ → Adapter
after command = commanded command (commanded 0x0805 (power_on [] 0))

early_1001 : reads 5 0x06 (after 0x8BE9) ≡ 1001
unfolding reads after word_at window5 commanded command act power_on
early_1001 = refl

available_1000 : reads 5 0x02 (after 0x93EB) ≡ 1000
unfolding reads after word_at window5 commanded command act power_on
available_1000 = refl

start_1000 : reads 5 0x00 (after 0x9BEB) ≡ 1000
unfolding reads after word_at window5 commanded command act power_on
start_1000 = refl

filter_13 : (reads 5 0x08 (after 0x801D) ≡ 13) × ((reads 5 0x0A (after 0x801D) ≡ 0) × (reads 5 0x0C (after 0x801D) ≡ 0))
unfolding reads after word_at window5 commanded command act power_on
filter_13 = (refl, (refl, refl))

mask_A6 : (reads 5 0x0A (after 0x71A7) ≡ 0xA6) × ((reads 5 0x08 (after 0x71A7) ≡ 0) × (reads 5 0x0C (after 0x71A7) ≡ 0))
unfolding reads after word_at window5 commanded command act power_on
mask_A6 = (refl, (refl, refl))

zero_5A : (reads 5 0x0C (after 0x795B) ≡ 0x5A) × ((reads 5 0x08 (after 0x795B) ≡ 0) × (reads 5 0x0A (after 0x795B) ≡ 0))
unfolding reads after word_at window5 commanded command act power_on
zero_5A = (refl, (refl, refl))

-- the threshold of RX Early is at least 8
early : ℕ → ℕ
early argument = reads 5 0x06 (after (0x8800 + argument))

early_least_lem : (early 0 ≡ 8) × ((early 4 ≡ 8) × ((early 7 ≡ 8) × ((early 8 ≡ 8) × ((early 9 ≡ 9) × (early 2047 ≡ 2047)))))
unfolding early reads after word_at window5 commanded command act power_on
early_least_lem = (refl, (refl, (refl, (refl, (refl, refl)))))

-- after one preamble word TX Free is 3,070 of 3,072; window 1 shows it cut to a multiple of 4, window 3 the exact one
preamble : Adapter
preamble =
    let a = power_on [] 0 in
    with_tx (record { queue = record { failed = false; packets = []; part = record { words = 1; preamble = 60; bytes = [] } }; reports = a.tx.reports }) a

cut : reads 1 0x0C preamble ≡ 3068
unfolding reads preamble word_at window1 power_on free room tx_size
cut = refl

exact : reads 3 0x0C preamble ≡ 3070
unfolding reads preamble word_at window3 power_on free room tx_size
exact = refl

-- RAM WIDTH, bit 3 of the first Internal Configuration word, reads 0
byte-wide : reads 3 0x00 (let a = power_on [] 0 in with_config (config_first 0xFFFF a.config) a) ≡ 0xFFF7
unfolding reads word_at window3 power_on
byte-wide = refl
