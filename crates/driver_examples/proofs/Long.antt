-- A frame of 1,514 bytes, by computing. Assumes nothing.
use mathlib.Core.Path.{refl}
use Rattle.receive_rules.specs.Frame.{is_coming, overran, room}
use Rattle.receive_rules.specs.Wire as wire
use Rattle.receive_rules.specs.Wire.{passes, begins, marked, ending}
use Rattle.receive_rules.specs.Reading as reading
use Rattle.receive_rules.specs.Reading.{marks, rx_status, complete, readable, oldest, data_word, after_read, without_oldest}
use Rattle.receive_rules.specs.Early.{early_flag, told_flag}
use Rattle.store.specs.Store.{at_newest}
use Rattle.transmit_rules.specs.Queue as queue
use Rattle.transmit_rules.specs.Outcome.{some, enable, due}
use Rattle.card_rules.specs.Room.{tx_size, rx_size}
use Rattle.card_rules.specs.Status.{status_of, interrupting}
use Rattle.card_rules.specs.Settle.{settle}
use Rattle.card_rules.specs.Power.{power_on}
use Rattle.card_rules.specs.Command.{acknowledge, act, command, commanded}
use Rattle.card_rules.specs.Read.{window1, word_at, after_word}
use Rattle.card_rules.specs.Write.{covers_low, covers_high, write, write2, write_word, write_byte}
use Rattle.card_rules.specs.Access.{access, effect}
use Rattle.card_rules.specs.Event.{wire_start, wire_byte, wire_end}
use Rattle.driver_rules.specs.Talk.{run, read_words}
use Rattle.driver_rules.specs.Open.{open_talk}
use Rattle.driver_rules.specs.Items.{idle_talk, fetch_talk}
use Rattle.driver_rules.specs.Service.{look_talk}
use Rattle.driver_examples.specs.Ready.{on, opens, bytes, frame}
use Rattle.driver_examples.specs.Service.{AFrameOf1514Bytes}

pub frame_of_1514 : AFrameOf1514Bytes
unfolding on opens run open_talk access effect commanded command act settle power_on write_word write_byte write write2 covers_low covers_high interrupting early_flag told_flag due enable queue.free queue.room tx_size rx_size some complete word_at status_of look_talk idle_talk acknowledge bytes frame wire_start wire_byte wire_end wire.wire_start wire.wire_byte wire.wire_end begins passes marked ending is_coming overran room at_newest window1 rx_status marks reading.discard without_oldest fetch_talk read_words after_word after_read readable oldest data_word
frame_of_1514 = record { good_1514 = (refl, refl); handed_1514 = refl }
