-- Service on an opened card, by computing. Assumes nothing.
use mathlib.Core.Path.{refl}
use Rattle.receive_rules.specs.Frame.{is_coming, overran, room}
use Rattle.receive_rules.specs.Wire as wire
use Rattle.receive_rules.specs.Wire.{passes, begins, marked, ending}
use Rattle.receive_rules.specs.Reading as reading
use Rattle.receive_rules.specs.Reading.{marks, rx_status, complete, readable, oldest, data_word, after_read, without_oldest}
use Rattle.receive_rules.specs.Early.{early_flag, told_flag}
use Rattle.store.specs.Store.{at_newest}
use Rattle.transmit_rules.specs.Queue as queue
use Rattle.transmit_rules.specs.Write.{put, completed}
use Rattle.transmit_rules.specs.Leave.{others, oldest_wanted}
use Rattle.transmit_rules.specs.Outcome.{top, some, push, rest, succeeded, collided, enable, due}
use Rattle.transmit_rules.specs.Tx as tx
use Rattle.card_rules.specs.Room.{tx_size, rx_size}
use Rattle.card_rules.specs.Status.{status_of, interrupting}
use Rattle.card_rules.specs.Settle.{settle}
use Rattle.card_rules.specs.Power.{power_on}
use Rattle.card_rules.specs.Command.{acknowledge, act, command, commanded}
use Rattle.card_rules.specs.Read.{window1, word_at, after_word}
use Rattle.card_rules.specs.Write.{covers_low, covers_high, write, write1, write2, write_word, write_byte}
use Rattle.card_rules.specs.Access.{access, effect, byte_at}
use Rattle.card_rules.specs.Event.{wire_start, wire_byte, wire_end, success, collisions}
use Rattle.driver_rules.specs.Talk.{run, read_words, write_words, words_of}
use Rattle.driver_rules.specs.Open.{open_talk}
use Rattle.driver_rules.specs.Items.{reports, report_talk, idle_talk, fetch_talk}
use Rattle.driver_rules.specs.Service.{look_talk}
use Rattle.driver_rules.specs.Send.{send_talk}
use Rattle.driver_rules.specs.Calls.{service_call}
use Rattle.driver_examples.specs.Ready.{on, opens, bytes, frame}
use Rattle.driver_examples.specs.Service.{ServiceExamples}

pub service_examples_lem : ServiceExamples
unfolding on opens run open_talk access effect commanded command act settle power_on write_word write_byte write write2 covers_low covers_high interrupting early_flag told_flag due enable queue.free queue.room tx_size rx_size some complete word_at status_of look_talk idle_talk acknowledge service_call bytes frame wire_start wire_byte wire_end wire.wire_start wire.wire_byte wire.wire_end begins passes marked ending is_coming overran room at_newest window1 rx_status marks reading.discard without_oldest fetch_talk read_words after_word after_read readable oldest data_word send_talk write_words words_of write1 put completed success collisions tx.success tx.collisions oldest_wanted others succeeded collided push report_talk reports byte_at top rest
service_examples_lem =
    record {
      nothing = (refl, refl);
      nothing_short = (refl, refl);
      no_budget = (refl, refl);
      unfit = (refl, refl);
      unopened = (refl, refl);
      tight = (refl, refl);
      unsound = (refl, refl);
      good_60 = (refl, refl);
      handed_60 = refl;
      short_60 = (refl, refl);
      damaged = (refl, refl);
      damaged_2 = (refl, refl);
      damaged_3 = (refl, refl);
      damaged_4 = (refl, refl);
      reported = (refl, refl);
      restarted = (refl, refl);
      status_alone_is = (refl, refl);
      report_short = (refl, refl);
    }
