-- Which byte of a write acts, and a split written with a FIFO in use, computed. Assumes nothing.
use mathlib.Core.Path.{◌≡◌, refl}
use mathlib.Core.Bool.{true, false}
use mathlib.Core.List.{[], ◌∷◌}
use Prim.Native.Nat.{ℕ}
use Rattle.transmit_rules.specs.Outcome.{rest}
use Rattle.transmit_rules.specs.Tx.{with_queue, with_reports}
use Rattle.card_rules.specs.Adapter.{Adapter}
use Rattle.card_rules.specs.Update.{with_tx}
use Rattle.card_rules.specs.Power.{power_on}
use Rattle.card_rules.specs.Eeprom.{prom_command, whole}
use Rattle.card_rules.specs.declared.Lanes.TheVariants.{Both, Low, High}
use Rattle.card_rules.specs.Write.{covers_low, covers_high, write0, write1, in_use, resplit, write3}

-- The EEPROM command 30h enables erasing and writing. Its low byte executes, its high byte does not.
by_low_byte : (write0 Low 0x0A 0x30 (power_on [] 0)).prom.writable ≡ true
unfolding write0 covers_low prom_command whole power_on
by_low_byte = refl

not_by_high_byte : (write0 High 0x0A 0x30 (power_on [] 0)).prom.writable ≡ false
unfolding write0 covers_low prom_command whole power_on
not_by_high_byte = refl

-- Two statuses are stacked. TX Status pops on a write that covers offset 0Bh: on one of the high byte, not on one of the low byte.
stacked : Adapter
stacked = let a = power_on [] 0 in with_tx (with_reports (record { sender = a.tx.reports.sender; statuses = 0xC0 ∷ 0x88 ∷ [] }) a.tx) a

popped : (write1 High 0x0A 0 stacked).tx.reports.statuses ≡ 0x88 ∷ []
unfolding stacked write1 covers_high rest power_on
popped = refl

not_popped : (write1 Low 0x0A 0 stacked).tx.reports.statuses ≡ 0xC0 ∷ 0x88 ∷ []
unfolding stacked write1 covers_high rest power_on
not_popped = refl

-- A preamble word is written, or none. A split written with a FIFO in use does nothing; the other bits change.
second : ℕ → ℕ → ℕ
second words v =
    let a = power_on [] 0 in
    let b = with_tx (with_queue (record { failed = false; packets = []; part = record { words = words; preamble = 60; bytes = [] } }) a.tx) a in
    (write3 Both 0x02 v b).config.second

split-written : second 0 0x0032 ≡ 0x0032
unfolding second write3 resplit in_use power_on
split-written = refl

split_stays : second 1 0x0032 ≡ 0x0030
unfolding second write3 resplit in_use power_on
split_stays = refl
