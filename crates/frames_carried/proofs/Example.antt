-- Frames brought and served, by computing: one of 60 bytes arrives, and the host reads it after 33 accesses; a damaged one between two good ones is not read; a good one behind a status and a damaged one is read by the second of two services. Assumes nothing.
use mathlib.Core.Path.{◌≡◌, refl}
use mathlib.Core.Bool.{true, false}
use mathlib.Core.List.{List, [], ◌∷◌, ◌++◌, map}
use Prim.Native.Nat.{ℕ, ◌+◌}
use native.Mathlib.Omega.{arith}
use lib.ListN.{length, replicate}
use Rattle.port_rules.specs.Card.{activated}
use Rattle.port_rules.specs.Sound.{id_sound}
use Rattle.receive_rules.specs.Frame.{is_coming, overran, room}
use Rattle.receive_rules.specs.Wire as wire
use Rattle.receive_rules.specs.Wire.{passes, begins, marked, ending}
use Rattle.receive_rules.specs.Reading as reading
use Rattle.receive_rules.specs.Reading.{marks, rx_status, complete, readable, oldest, data_word, after_read, without_oldest}
use Rattle.receive_rules.specs.Sound.{in_order, early_settled}
use Rattle.receive_rules.specs.Early.{early_flag, told_flag}
use Rattle.store.specs.Store.{at_newest}
use Rattle.transmit_rules.specs.Queue as queue
use Rattle.transmit_rules.specs.QueueSound.{all_sized}
use Rattle.transmit_rules.specs.Write.{put, completed}
use Rattle.transmit_rules.specs.Leave.{others as leaving, oldest_wanted, told_of}
use Rattle.transmit_rules.specs.Outcome.{some, top, rest, push, succeeded, enable, due}
use Rattle.transmit_rules.specs.Tx as tx
use Rattle.card_rules.specs.Update.{with_id}
use Rattle.card_rules.specs.Room.{tx_size, rx_size}
use Rattle.card_rules.specs.Status.{status_of, interrupting}
use Rattle.card_rules.specs.Settle.{settle}
use Rattle.card_rules.specs.Power.{power_on}
use Rattle.card_rules.specs.Sound.{select_sound}
use Rattle.card_rules.specs.Command.{acknowledge, act, command, commanded}
use Rattle.card_rules.specs.Read.{window1, word_at, after_word}
use Rattle.card_rules.specs.Write.{covers_low, covers_high, write, write1, write2, write_word, write_byte}
use Rattle.card_rules.specs.Access.{access, byte_at, effect}
use Rattle.card_rules.specs.Event.{wire_start, wire_byte, wire_end, success}
use Rattle.driver_rules.specs.Driver.{never_opened}
use Rattle.driver_rules.specs.Talk.{run, read_words, write_words, words_of}
use Rattle.driver_rules.specs.Open.{open_talk}
use Rattle.driver_rules.specs.Send.{send_talk}
use Rattle.driver_rules.specs.Items.{reports, report_talk, idle_talk, fetch_talk}
use Rattle.driver_rules.specs.Areas.{in_look, in_frame}
use Rattle.driver_rules.specs.Service.{look_talk}
use Rattle.driver_rules.specs.Calls.{open_call, send_call, service_call}
use Rattle.driver_rules.specs.Paper as paper
use Rattle.driver_rules.specs.Paper.{opened, ticket, report, status_alone, frame, idle, short}
use Rattle.runs.specs.Run.{Bench, sound_bench, Areas, Event, Start, Byte, End, Sent, Open, Send, Service, Said, refused, told, answered, served, opens, sends, serves, next, said, after, sayings, since}
use Rattle.frames_carried.specs.Brings.{stored, if_good, good, newest, hears, is_whole, no_code, arrives, arrived}
use Rattle.frames_carried.specs.Reads.{offered, reads, host_reads}
use Rattle.frames_carried.specs.Bytes.{octets, holdable, octets_of, wire_octets}
use Rattle.frames_carried.specs.Carried.{good_frame, Unread, Carried, AfterOpen, after_open, Call, services, ample, Enough}
use Rattle.frames_carried.proofs.Events.{as_they_came}
use Rattle.frames_carried.proofs.NoneLeft.{nothing_left}

-- the accesses that a service tells
unfoldable used : Said → ℕ
used (refused n) = 0
used (told bytes) = 0
used (answered p) = 0
used (served opened bytes s) = 0
used (served (ticket n) bytes s) = 0
used (served (report k v n) bytes s) = n
used (served (status_alone v n) bytes s) = n
used (served (frame k n) bytes s) = n
used (served (idle n) bytes s) = n
used (served (short n) bytes s) = n
used (served (paper.refused n) bytes s) = 0

-- a power-on card with words of zero, activated
unfoldable bench : Bench
bench = let a = power_on (replicate 64 0) 0 in record { adapter = with_id (activated 0 a.id) a; driver = never_opened }

abbrev first : List ℕ
first = replicate 6 0 ++ (1 ∷ (2 ∷ []))

abbrev others : List ℕ
others = replicate 51 7 ++ (9 ∷ [])

abbrev areas : Areas
areas = record { look = replicate 256 0; frame = replicate 1514 0 }

-- opened, a frame, a service
abbrev events : List Event
events = Open 0 0 0 ∷ (good_frame first refl others ++ (Service 65535 areas ∷ []))

it_arrives : arrived events [] bench ≡ (first ++ others) ∷ []
unfolding bench arrived arrives hears no_code is_whole next opens open_call serves service_call run open_talk access effect commanded command act settle power_on write_word write_byte write write2 covers_low covers_high interrupting early_flag told_flag due enable queue.free queue.room tx_size rx_size some complete word_at status_of look_talk idle_talk acknowledge wire_start wire_byte wire_end wire.wire_start wire.wire_byte wire.wire_end begins passes marked ending is_coming overran room at_newest window1 rx_status marks reading.discard without_oldest fetch_talk read_words after_word after_read readable oldest data_word
it_arrives = refl

it_is_said : sayings events bench
    ≡ answered opened ∷ (served (frame 60 33) (first ++ others) (record { look = first ++ (others ++ replicate 196 0); frame = replicate 1514 0 }) ∷ [])
unfolding bench sayings said in_look in_frame next opens open_call serves service_call run open_talk access effect commanded command act settle power_on write_word write_byte write write2 covers_low covers_high interrupting early_flag told_flag due enable queue.free queue.room tx_size rx_size some complete word_at status_of look_talk idle_talk acknowledge wire_start wire_byte wire_end wire.wire_start wire.wire_byte wire.wire_end begins passes marked ending is_coming overran room at_newest window1 rx_status marks reading.discard without_oldest fetch_talk read_words after_word after_read readable oldest data_word
it_is_said = refl

it_is_read : host_reads (sayings events bench) ≡ (first ++ others) ∷ []
unfolding host_reads reads
it_is_read = rw it_is_said

-- Three frames before the first service: a good one, one with a bad check, a good one of 61 bytes. The host reads the first and the third, and then idle.
abbrev odd : List ℕ
odd = replicate 52 5 ++ (3 ∷ [])

abbrev three : List Event
three =
    Open 0 0 0
    ∷ (good_frame first refl others
    ++ (Start first refl
    ∷ (map Byte (replicate 52 4)
    ++ (End false true ∷ (good_frame first refl odd ++ (Service 65535 areas ∷ (Service 65535 areas ∷ (Service 65535 areas ∷ []))))))))

two_arrive : arrived three [] bench ≡ (first ++ others) ∷ ((first ++ odd) ∷ [])
unfolding bench arrived arrives hears no_code is_whole next opens open_call serves service_call run open_talk access effect commanded command act settle power_on write_word write_byte write write2 covers_low covers_high interrupting early_flag told_flag due enable queue.free queue.room tx_size rx_size some complete word_at status_of look_talk idle_talk acknowledge wire_start wire_byte wire_end wire.wire_start wire.wire_byte wire.wire_end begins passes marked ending is_coming overran room at_newest window1 rx_status marks reading.discard without_oldest fetch_talk read_words after_word after_read readable oldest data_word
two_arrive = refl

three_are_said : host_reads (sayings three bench) ≡ (first ++ others) ∷ ((first ++ odd) ∷ [])
unfolding host_reads reads offered bench sayings said in_look in_frame next opens open_call serves service_call run open_talk access effect commanded command act settle power_on write_word write_byte write write2 covers_low covers_high interrupting early_flag told_flag due enable queue.free queue.room tx_size rx_size some complete word_at status_of look_talk idle_talk acknowledge wire_start wire_byte wire_end wire.wire_start wire.wire_byte wire.wire_end begins passes marked ending is_coming overran room at_newest window1 rx_status marks reading.discard without_oldest fetch_talk read_words after_word after_read readable oldest data_word
three_are_said = refl

-- the second service drops the damaged frame first: 3 accesses
counts : map used (sayings three bench) ≡ 0 ∷ (33 ∷ (37 ∷ (2 ∷ [])))
unfolding used bench sayings said in_look in_frame next opens open_call serves service_call run open_talk access effect commanded command act settle power_on write_word write_byte write write2 covers_low covers_high interrupting early_flag told_flag due enable queue.free queue.room tx_size rx_size some complete word_at status_of look_talk idle_talk acknowledge wire_start wire_byte wire_end wire.wire_start wire.wire_byte wire.wire_end begins passes marked ending is_coming overran room at_newest window1 rx_status marks reading.discard without_oldest fetch_talk read_words after_word after_read readable oldest data_word
counts = refl

-- the theorem speaks of this run
bench_sound : sound_bench bench ≡ true
unfolding bench power_on id_sound select_sound interrupting room in_order readable early_settled queue.free queue.room all_sized due some complete tx_size rx_size
bench_sound = refl

three_carried : Carried three bench
unfolding bench power_on holdable wire_octets octets_of octets
three_carried = as_they_came bench bench_sound (record { none_read = refl; no_failure = refl; held = refl }) three refl

-- A status stands, and a frame with a bad check is stored before a good one: of two services the first reports the status, the second drops the damaged frame and hands up the good one.
abbrev opened_bench : Bench
opened_bench = next (Open 0 0 0) bench

abbrev waiting : List Event
waiting = Send (replicate 14 1) ∷ (Sent ∷ (Start first refl ∷ (map Byte (replicate 52 4) ++ (End false true ∷ good_frame first refl others))))

-- 3 accesses for each of two frames, and 757 words
abbrev call : Call
call = record { budget = 763; areas = areas }

one_is_too_few : host_reads (sayings (waiting ++ services (call ∷ [])) opened_bench) ≡ []
unfolding host_reads reads offered bench sayings said in_look in_frame next opens open_call serves service_call run open_talk access effect commanded command act settle power_on write_word write_byte write write2 covers_low covers_high interrupting early_flag told_flag due enable queue.free queue.room tx_size rx_size some complete word_at status_of look_talk idle_talk acknowledge wire_start wire_byte wire_end wire.wire_start wire.wire_byte wire.wire_end begins passes marked ending is_coming overran room at_newest window1 rx_status marks reading.discard without_oldest fetch_talk read_words after_word after_read readable oldest data_word after sends send_call send_talk write_words words_of write1 put completed success tx.success tx.any leaving oldest_wanted told_of succeeded push report_talk reports byte_at top rest
one_is_too_few = refl

two_are_enough : host_reads (sayings (waiting ++ services (call ∷ (call ∷ []))) opened_bench) ≡ (first ++ others) ∷ []
unfolding host_reads reads offered bench sayings said in_look in_frame next opens open_call serves service_call run open_talk access effect commanded command act settle power_on write_word write_byte write write2 covers_low covers_high interrupting early_flag told_flag due enable queue.free queue.room tx_size rx_size some complete word_at status_of look_talk idle_talk acknowledge wire_start wire_byte wire_end wire.wire_start wire.wire_byte wire.wire_end begins passes marked ending is_coming overran room at_newest window1 rx_status marks reading.discard without_oldest fetch_talk read_words after_word after_read readable oldest data_word after sends send_call send_talk write_words words_of write1 put completed success tx.success tx.any leaving oldest_wanted told_of succeeded push report_talk reports byte_at top rest
two_are_enough = refl

-- the promise speaks of these calls
they_are : Enough (call ∷ (call ∷ [])) (after waiting opened_bench)
unfolding ample good if_good bench sayings said in_look in_frame next opens open_call serves service_call run open_talk access effect commanded command act settle power_on write_word write_byte write write2 covers_low covers_high interrupting early_flag told_flag due enable queue.free queue.room tx_size rx_size some complete word_at status_of look_talk idle_talk acknowledge wire_start wire_byte wire_end wire.wire_start wire.wire_byte wire.wire_end begins passes marked ending is_coming overran room at_newest window1 rx_status marks reading.discard without_oldest fetch_talk read_words after_word after_read readable oldest data_word after sends send_call send_talk write_words words_of write1 put completed success tx.success tx.any leaving oldest_wanted told_of succeeded push report_talk reports byte_at top rest
they_are =
    let c : Bench = after waiting opened_bench in
    let n : length c.adapter.tx.reports.statuses + length (good (stored c)) ≡ 2 = refl in
    record { active = refl; no_adapter_failure = refl; each = refl; calls = omega arith }

after_an_open : AfterOpen opened_bench
unfolding after since
after_an_open = after_open bench bench_sound [] 0 0 0 []

unread : Unread opened_bench
unfolding holdable bench next opens open_call run open_talk access effect commanded command act settle power_on write_word write_byte write write2 covers_low covers_high
unread = record { none_read = refl; no_failure = refl; held = refl }

none_left : host_reads (sayings (waiting ++ services (call ∷ (call ∷ []))) opened_bench) ≡ good (stored opened_bench) ++ arrived waiting (newest (stored opened_bench)) opened_bench
unfolding wire_octets octets_of octets
none_left = nothing_left opened_bench after_an_open unread waiting refl (call ∷ (call ∷ [])) they_are
