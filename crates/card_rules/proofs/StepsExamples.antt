-- Worked examples, by computing: accesses and events on a card that the ID port has activated. Assumes nothing.
use mathlib.Core.Path.{◌≡◌, refl}
use mathlib.Core.List.{List, [], ◌∷◌}
use mathlib.Core.Bool.{Bool, true, false}
use Prim.Native.Nat.{ℕ, zero, suc, ◌+◌, ◌*◌}
use lib.ListN.{replicate}
use Rattle.port_rules.specs.Card.{activated}
use Rattle.receive_rules.specs.Frame.{is_coming, overran, room}
use Rattle.receive_rules.specs.Wire as wire
use Rattle.receive_rules.specs.Wire.{passes, begins, marked, ending}
use Rattle.receive_rules.specs.Reading.{marks, rx_status, complete, readable, oldest, data_word, after_read}
use Rattle.receive_rules.specs.Early.{early_flag, told_flag}
use Rattle.store.specs.Store.{at_newest}
use Rattle.transmit_rules.specs.Queue as queue
use Rattle.transmit_rules.specs.Write.{completed, put}
use Rattle.transmit_rules.specs.Outcome.{some, enable, due}
use Rattle.card_rules.specs.Adapter.{Adapter}
use Rattle.card_rules.specs.Update.{with_id}
use Rattle.card_rules.specs.Room.{tx_size, rx_size}
use Rattle.card_rules.specs.Status.{status_of, interrupting}
use Rattle.card_rules.specs.Settle.{settle}
use Rattle.card_rules.specs.Power.{power_on}
use Rattle.card_rules.specs.Command.{act, command, commanded}
use Rattle.card_rules.specs.Read.{window1, word_at, after_word}
use Rattle.card_rules.specs.Write.{write1, write, write_word}
use Rattle.card_rules.specs.Access.{Access, ReadWord, ReadByte, WriteWord, access, effect}
use Rattle.card_rules.specs.Event.{wire_start, wire_byte, wire_end}

-- a power-on card with words of zero, activated
on : Adapter
on = let a = power_on (replicate 64 0) 0 in with_id (activated 0 a.id) a

after : List Access → Adapter → Adapter
after [] a = a
after (x ∷ xs) a = after xs (access x a).adapter

reads : ℕ → Adapter → ℕ
reads o a = (access (ReadWord o) a).value

-- a command, by its number and argument
order : ℕ → ℕ → Access
order n x = WriteWord 14 (n * 2048 + x)

-- window 1, all frames, Read Zero FFh, receiver and transmitter on
ready : Adapter
ready = after (order 1 1 ∷ order 16 8 ∷ order 15 255 ∷ order 4 0 ∷ order 9 0 ∷ []) on

words : ℕ → List Access
words zero = []
words (suc n) = WriteWord 0 0 ∷ words n

-- n zero bytes come after the first eight
bytes : ℕ → Adapter → Adapter
bytes zero a = a
bytes (suc n) a = bytes n (wire_byte 0 a)

frame : ℕ → Bool → Bool → Adapter
frame n check alignment = wire_end check alignment (bytes n (wire_start (replicate 8 0) ready))

-- an inactive card reads all ones: a word, and a byte
inactive-word : reads 14 (power_on [] 0) ≡ 0xFFFF
unfolding reads access effect power_on
inactive-word = refl

inactive-byte : (access (ReadByte 14) (power_on [] 0)).value ≡ 0xFF
unfolding access effect power_on
inactive-byte = refl

-- Status in window 1 with nothing pending
status-idle : reads 14 ready ≡ 0x2000
unfolding on after reads order ready access effect commanded command act settle power_on write_word interrupting early_flag told_flag due enable queue.free queue.room tx_size some complete word_at status_of
status-idle = refl

-- 14 bytes leave TX Free 3,052 of 3,072
free_all : reads 12 ready ≡ 3072
unfolding on after reads order ready access effect commanded command act settle power_on write_word interrupting early_flag told_flag due enable queue.free queue.room tx_size some complete word_at status_of window1
free_all = refl

free_14 : reads 12 (after (WriteWord 0 14 ∷ WriteWord 0 0 ∷ words 8) ready) ≡ 3052
unfolding on after reads order ready words access effect commanded command act settle power_on write_word write write1 put completed interrupting early_flag told_flag due enable queue.free queue.room tx_size some complete word_at status_of window1
free_14 = refl

good_60 : reads 8 (frame 52 true true) ≡ 0x003C
unfolding on after reads order ready bytes frame access effect commanded command act settle power_on write_word write interrupting early_flag told_flag due enable queue.free queue.room tx_size rx_size some complete word_at status_of window1 wire_start wire_byte wire_end wire.wire_start wire.wire_byte wire.wire_end begins passes marked ending is_coming overran room at_newest rx_status marks
good_60 = refl

runt_59 : reads 8 (frame 51 true true) ≡ 0x583B
unfolding on after reads order ready bytes frame access effect commanded command act settle power_on write_word write interrupting early_flag told_flag due enable queue.free queue.room tx_size rx_size some complete word_at status_of window1 wire_start wire_byte wire_end wire.wire_start wire.wire_byte wire.wire_end begins passes marked ending is_coming overran room at_newest rx_status marks
runt_59 = refl

bad_check : reads 8 (frame 52 false true) ≡ 0x683C
unfolding on after reads order ready bytes frame access effect commanded command act settle power_on write_word write interrupting early_flag told_flag due enable queue.free queue.room tx_size rx_size some complete word_at status_of window1 wire_start wire_byte wire_end wire.wire_start wire.wire_byte wire.wire_end begins passes marked ending is_coming overran room at_newest rx_status marks
bad_check = refl

reading31 : ℕ → Adapter → Adapter
reading31 zero a = a
reading31 (suc n) a = reading31 n (access (ReadWord 0) a).adapter

past_1 : reads 8 (reading31 31 (frame 53 true true)) ≡ 0x07FF
unfolding on after reads order ready bytes frame reading31 access effect commanded command act settle power_on write_word write interrupting early_flag told_flag due enable queue.free queue.room tx_size rx_size some complete word_at status_of window1 wire_start wire_byte wire_end wire.wire_start wire.wire_byte wire.wire_end begins passes marked ending is_coming overran room at_newest rx_status marks after_word after_read readable oldest data_word
past_1 = refl

past_3 : reads 8 (reading31 32 (frame 53 true true)) ≡ 0x07FD
unfolding on after reads order ready bytes frame reading31 access effect commanded command act settle power_on write_word write interrupting early_flag told_flag due enable queue.free queue.room tx_size rx_size some complete word_at status_of window1 wire_start wire_byte wire_end wire.wire_start wire.wire_byte wire.wire_end begins passes marked ending is_coming overran room at_newest rx_status marks after_word after_read readable oldest data_word
past_3 = refl

-- RX Early: n single bytes have come after the eight of the start; with 0, 4 and 8 the bit comes with the start, with 9 a byte later
early : ℕ → ℕ → ℕ
early argument n = reads 14 (bytes n (wire_start (replicate 8 0) (after (order 17 argument ∷ []) ready)))

early_with_the_start : (early 0 0 ≡ 0x2020) × ((early 4 0 ≡ 0x2020) × (early 8 0 ≡ 0x2020))
unfolding early on after reads order ready bytes access effect commanded command act settle power_on write_word write interrupting early_flag told_flag due enable queue.free queue.room tx_size rx_size some complete word_at status_of wire_start wire.wire_start begins passes is_coming overran room
early_with_the_start = (refl, (refl, refl))

early_a_byte_later : (early 9 0 ≡ 0x2000) × (early 9 1 ≡ 0x2020)
unfolding early on after reads order ready bytes access effect commanded command act settle power_on write_word write interrupting early_flag told_flag due enable queue.free queue.room tx_size rx_size some complete word_at status_of wire_start wire_byte wire.wire_start wire.wire_byte begins passes marked is_coming overran room at_newest
early_a_byte_later = (refl, refl)
