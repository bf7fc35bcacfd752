-- Worked examples of the refusals, by computing. Assumes nothing.
use mathlib.Core.Path.{◌≡◌, refl}
use mathlib.Core.Bool.{true, false}
use Rattle.card_rules.specs.Tests.{judged, is_word, is_byte, off_wire, on_wire}

-- 1 comes before 12
unsound-first : judged false (is_word 0x10) 12 ≡ 1
unfolding judged
unsound-first = refl

-- 12: an offset above 0Fh, an odd offset for a word, a byte at 00h to 03h in window 1
above : judged true (is_word 0x10) 12 ≡ 12
unfolding judged
above = refl

odd : judged true (is_word 0x0D) 12 ≡ 12
unfolding judged
odd = refl

data_byte : judged true (is_byte 1 0x03) 12 ≡ 12
unfolding judged
data_byte = refl

-- .. but not at 04h, nor in another window
timer_byte : judged true (is_byte 1 0x04) 12 ≡ 0
unfolding judged
timer_byte = refl

station-byte : judged true (is_byte 2 0x00) 12 ≡ 0
unfolding judged
station-byte = refl

-- 11: a start inside a frame, a byte without a start
start_inside : judged true (off_wire 1) 11 ≡ 11
unfolding judged
start_inside = refl

byte_without : judged true (on_wire 0) 11 ≡ 11
unfolding judged
byte_without = refl
