-- Before the open the host has read two words of a good frame of 100 bytes: the driver hands up the 96 that are left as a frame. Assumes nothing.
use mathlib.Core.Path.{◌≡◌, refl}
use mathlib.Core.Bool.{true}
use mathlib.Core.List.{List, [], ◌∷◌, ◌++◌, map}
use lib.ListN.{replicate}
use Rattle.receive_rules.specs.Frame.{is_coming, overran, room}
use Rattle.receive_rules.specs.Wire as wire
use Rattle.receive_rules.specs.Wire.{passes, begins, marked, ending}
use Rattle.receive_rules.specs.Reading as reading
use Rattle.receive_rules.specs.Reading.{marks, rx_status, complete, readable, oldest, data_word, after_read, without_oldest}
use Rattle.receive_rules.specs.Early.{early_flag, told_flag}
use Rattle.store.specs.Store.{at_newest}
use Rattle.transmit_rules.specs.Queue as queue
use Rattle.transmit_rules.specs.Outcome.{some, enable, due}
use Rattle.card_rules.specs.Room.{tx_size, rx_size}
use Rattle.card_rules.specs.Status.{status_of, interrupting}
use Rattle.card_rules.specs.Settle.{settle}
use Rattle.card_rules.specs.Power.{power_on}
use Rattle.card_rules.specs.Command.{acknowledge, act, command, commanded}
use Rattle.card_rules.specs.Read.{window1, word_at, after_word}
use Rattle.card_rules.specs.Write.{covers_low, covers_high, write, write2, write_word, write_byte}
use Rattle.card_rules.specs.Access.{access, effect, WriteWord, ReadWord}
use Rattle.card_rules.specs.Event.{wire_start, wire_byte, wire_end}
use Rattle.driver_rules.specs.Talk.{run, read_words}
use Rattle.driver_rules.specs.Open.{open_talk}
use Rattle.driver_rules.specs.Items.{idle_talk, fetch_talk}
use Rattle.driver_rules.specs.Areas.{in_look, in_frame}
use Rattle.driver_rules.specs.Service.{look_talk}
use Rattle.driver_rules.specs.Calls.{open_call, service_call}
use Rattle.driver_rules.specs.Paper.{frame}
use Rattle.runs.specs.Run.{Start, Byte, End, Open, Service, served, Earlier, Host, Later, opens, serves, next, said, permitted, before, since}
use Rattle.no_trace.specs.Examples.{start, areas}

unfoldable history : List Earlier
history =
    Host (WriteWord 0x0E 0x0801) ∷ Host (WriteWord 0x0E 0x8005) ∷ Host (WriteWord 0x0E 0x2000)
    ∷ Later (Start (replicate 8 0) refl) ∷ (map (λ v. Later (Byte v)) (replicate 92 7) ++ (Later (End true true) ∷ Host (ReadWord 0) ∷ Host (ReadWord 0) ∷ []))

cut : said (Service 1000 areas) (next (Open 0 0 0) (since history start))
    ≡ served (frame 96 51) (replicate 4 0 ++ replicate 92 7) (record { look = (replicate 4 0 ++ replicate 92 7) ++ replicate 160 0; frame = replicate 1514 0 }) ∷ []
unfolding history start since before permitted said in_look in_frame next opens open_call serves service_call run open_talk access effect commanded command act settle power_on write_word write_byte write write2 covers_low covers_high interrupting early_flag told_flag due enable queue.free queue.room tx_size rx_size some complete word_at status_of look_talk idle_talk acknowledge wire_start wire_byte wire_end wire.wire_start wire.wire_byte wire.wire_end begins passes marked ending is_coming overran room at_newest window1 rx_status marks reading.discard without_oldest fetch_talk read_words after_word after_read readable oldest data_word
cut = refl
