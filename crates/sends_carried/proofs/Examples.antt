-- Two packets of 14 and 15 bytes sent, computed: the first goes by success and tells the wire its bytes and zeros, the second by collisions. Assumes nothing.
use mathlib.Core.Path.{◌≡◌, refl}
use mathlib.Core.Bool.{true, false}
use mathlib.Core.List.{List, [], ◌∷◌, ◌++◌}
use Prim.Native.Nat.{ℕ}
use lib.ListN.{replicate}
use Rattle.port_rules.specs.Card.{activated}
use Rattle.receive_rules.specs.Reading.{complete}
use Rattle.receive_rules.specs.Early.{early_flag, told_flag}
use Rattle.store.specs.Store as store
use Rattle.transmit_rules.specs.Queue as queue
use Rattle.transmit_rules.specs.Write.{put, completed}
use Rattle.transmit_rules.specs.Leave.{others, oldest_wanted, told_of}
use Rattle.transmit_rules.specs.Outcome.{some, push, succeeded, collided, enable, due}
use Rattle.transmit_rules.specs.Tx as tx
use Rattle.card_rules.specs.Update.{with_id}
use Rattle.card_rules.specs.Room.{tx_size, rx_size}
use Rattle.card_rules.specs.Status.{status_of, interrupting}
use Rattle.card_rules.specs.Settle.{settle}
use Rattle.card_rules.specs.Power.{power_on}
use Rattle.card_rules.specs.Command.{act, command, commanded}
use Rattle.card_rules.specs.Read.{window1, word_at, after_word}
use Rattle.card_rules.specs.Write.{covers_low, covers_high, write, write1, write2, write_word, write_byte}
use Rattle.card_rules.specs.Access.{WriteWord, access, effect}
use Rattle.card_rules.specs.Event.{success, collisions}
use Rattle.driver_rules.specs.Driver.{never_opened}
use Rattle.driver_rules.specs.Talk.{run, write_words, words_of}
use Rattle.driver_rules.specs.Open.{open_talk}
use Rattle.driver_rules.specs.Send.{send_talk}
use Rattle.driver_rules.specs.Calls.{open_call, send_call}
use Rattle.runs.specs.Run.{Bench, Event, Sent, Collided, Open, Send, opens, sends, next, said, sayings}
use Rattle.sends_carried.specs.Packets.{stored, padded, packets, are_bytes, ticketed, oldest, leaves, accepts, gone, accepted, on_wire, sends_bytes}
use Rattle.sends_carried.specs.Carried.{Carried}
use Rattle.sends_carried.proofs.Carried.{carried}

-- a power-on card with words of zero, activated, and a driver never opened
unfoldable on : Bench
on = let a = power_on (replicate 64 0) 0 in record { adapter = with_id (activated 0 a.id) a; driver = never_opened }

abbrev first : List ℕ
first = 1 ∷ 2 ∷ 3 ∷ 4 ∷ 5 ∷ 6 ∷ 7 ∷ 8 ∷ 9 ∷ 10 ∷ 11 ∷ 12 ∷ 13 ∷ 255 ∷ []

abbrev second : List ℕ
second = first ++ (254 ∷ [])

abbrev run_of_two : List Event
run_of_two = Open 0 0 0 ∷ Send first ∷ Send second ∷ Sent ∷ Collided ∷ Sent ∷ []

told : on_wire (sayings run_of_two on) ≡ padded first ∷ []
unfolding on opens run open_call open_talk access effect commanded command act settle power_on write_word write_byte write write2 covers_low covers_high interrupting early_flag told_flag due enable queue.free queue.room tx_size rx_size some complete word_at status_of send_call send_talk sends after_word write_words words_of write1 put completed window1 next said sayings on_wire told_of tx.success tx.collisions tx.any success collisions others oldest_wanted succeeded collided push
told = refl

both-accepted : accepted run_of_two on ≡ first ∷ second ∷ []
unfolding accepted accepts on opens run open_call open_talk access effect commanded command act settle power_on write_word write_byte write write2 covers_low covers_high interrupting early_flag told_flag due enable queue.free queue.room tx_size rx_size some complete word_at status_of send_call send_talk sends after_word write_words words_of write1 put completed window1 next said sayings on_wire told_of tx.success tx.collisions tx.any success collisions others oldest_wanted succeeded collided push
both-accepted = refl

both-gone : gone run_of_two on ≡ record { success = true; packet = stored first } ∷ record { success = false; packet = stored second } ∷ []
unfolding gone leaves oldest on opens run open_call open_talk access effect commanded command act settle power_on write_word write_byte write write2 covers_low covers_high interrupting early_flag told_flag due enable queue.free queue.room tx_size rx_size some complete word_at status_of send_call send_talk sends after_word write_words words_of write1 put completed window1 next said sayings on_wire told_of tx.success tx.collisions tx.any success collisions others oldest_wanted succeeded collided push
both-gone = refl

-- the promise speaks of this run
promised : Carried run_of_two on
unfolding on power_on sends_bytes are_bytes
promised = carried run_of_two on refl (record { no_failure = refl; none_half_written = refl })

-- Why the state must be clear: a host has written the preamble of a packet of 6 bytes by itself; the driver's words fill it up, and its send is taken all the same.
abbrev half : Bench
half = record { adapter = (access (WriteWord 0 0x8006) (next (Open 0 0 0) on).adapter).adapter; driver = (next (Open 0 0 0) on).driver }

spoilt : (ticketed first half ≡ true) × (packets (next (Send first) half) ≡ store.begun 16 (0 ∷ 0 ∷ 1 ∷ 2 ∷ 3 ∷ 4 ∷ []) ∷ [])
unfolding on opens run open_call open_talk access effect commanded command act settle power_on write_word write_byte write write2 covers_low covers_high interrupting early_flag told_flag due enable queue.free queue.room tx_size rx_size some complete word_at status_of send_call send_talk sends after_word write_words words_of write1 put completed window1 next
spoilt = (refl, refl)
