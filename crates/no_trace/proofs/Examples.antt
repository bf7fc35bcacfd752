-- The worked examples, by computing. Assumes nothing.
use mathlib.Core.Path.{refl}
use native.Mathlib.Omega.{arith}
use Rattle.receive_rules.specs.Frame.{is_coming, overran, room}
use Rattle.receive_rules.specs.Wire as wire
use Rattle.receive_rules.specs.Wire.{passes, begins, marked, ending}
use Rattle.receive_rules.specs.Reading as reading
use Rattle.receive_rules.specs.Reading.{marks, rx_status, complete, readable, oldest, data_word, after_read, without_oldest}
use Rattle.receive_rules.specs.Sound.{in_order, early_settled}
use Rattle.receive_rules.specs.Early.{early_flag, told_flag}
use Rattle.store.specs.Store.{at_newest}
use Rattle.transmit_rules.specs.Queue as queue
use Rattle.transmit_rules.specs.Write.{put, completed}
use Rattle.transmit_rules.specs.QueueSound.{all_sized}
use Rattle.transmit_rules.specs.Leave.{told_of, others, oldest_wanted}
use Rattle.transmit_rules.specs.Outcome.{top, some, push, rest, succeeded, enable, due}
use Rattle.transmit_rules.specs.Tx as tx
use Rattle.port_rules.specs.Sound.{id_sound}
use Rattle.card_rules.specs.Room.{tx_size, rx_size}
use Rattle.card_rules.specs.Status.{status_of, interrupting}
use Rattle.card_rules.specs.Settle.{settle}
use Rattle.card_rules.specs.Sound.{select_sound}
use Rattle.card_rules.specs.Power.{power_on}
use Rattle.card_rules.specs.Command.{acknowledge, act, command, commanded}
use Rattle.card_rules.specs.Read.{window1, word_at, after_word}
use Rattle.card_rules.specs.Write.{covers_low, covers_high, write, write1, write2, write_word, write_byte}
use Rattle.card_rules.specs.Access.{access, effect, byte_at}
use Rattle.card_rules.specs.Event as card
use Rattle.driver_rules.specs.Talk.{run, read_words, write_words, words_of}
use Rattle.driver_rules.specs.Open.{open_talk}
use Rattle.driver_rules.specs.Send.{send_talk}
use Rattle.driver_rules.specs.Items.{reports, report_talk, idle_talk, fetch_talk}
use Rattle.driver_rules.specs.Areas.{in_look, in_frame}
use Rattle.driver_rules.specs.Service.{look_talk}
use Rattle.driver_rules.specs.Calls.{open_call, send_call, service_call}
use Rattle.runs.specs.Run.{opens, sends, serves, next, said, after, sayings}
use Rattle.no_trace.specs.Stretch.{heard, calls, is_damaged, newest_damaged, with_frames, without_frames, AllDamaged}
use Rattle.no_trace.specs.Wrong.{pass, WrongServicesHandUpDamage}
use Rattle.no_trace.specs.Examples.{start, opened, papers, TwoStretches, ABudgetOf4LeavesATrace, NotAtRestLeavesATrace}

pub two_stretches_lem : TwoStretches
unfolding start opened papers heard calls with_frames without_frames AllDamaged is_damaged newest_damaged opens sends serves next said after sayings open_call send_call service_call run open_talk send_talk look_talk report_talk reports idle_talk in_look in_frame access effect byte_at commanded command act acknowledge settle power_on write_word write_byte write write1 write2 covers_low covers_high interrupting early_flag told_flag due enable queue.free queue.room put completed tx_size rx_size some complete word_at window1 after_word status_of write_words words_of card.wire_start card.wire_byte card.wire_end wire.wire_start wire.wire_byte wire.wire_end begins passes marked ending is_coming overran room at_newest rx_status marks readable reading.discard without_oldest in_order early_settled all_sized id_sound select_sound
two_stretches_lem =
    record {
      sound = refl;
      damaged = (
        record { rest = record { answered_idle = refl; none_stored = refl; none_on_wire = refl }; code = refl; areas = refl; budget = omega arith },
        (record { rest = record { answered_idle = refl; none_stored = refl; none_on_wire = refl }; code = refl; areas = refl; budget = omega arith }, tt),
      );
      with_frames_is = refl;
      without_frames_is = refl;
    }

pub budget_of_4 : ABudgetOf4LeavesATrace
unfolding start opened papers heard calls with_frames without_frames opens serves next said after sayings open_call service_call run open_talk look_talk idle_talk in_look in_frame access effect byte_at commanded command act acknowledge settle power_on write_word write_byte write write1 write2 covers_low covers_high interrupting early_flag told_flag due enable queue.free queue.room tx_size rx_size some complete word_at window1 after_word status_of card.wire_start card.wire_byte card.wire_end wire.wire_start wire.wire_byte wire.wire_end begins passes marked ending is_coming overran room at_newest rx_status marks reading.discard without_oldest
budget_of_4 = record { with_frame = refl; without_frame = refl }

pub not_at_rest : NotAtRestLeavesATrace
unfolding start opened papers heard calls with_frames without_frames opens sends serves next said after sayings open_call send_call service_call run open_talk send_talk look_talk report_talk reports idle_talk in_look in_frame access effect byte_at commanded command act acknowledge settle power_on write_word write_byte write write1 write2 covers_low covers_high interrupting early_flag told_flag due enable queue.free queue.room put completed tx_size rx_size some complete word_at window1 after_word status_of write_words words_of card.wire_start card.wire_byte card.wire_end card.success tx.success tx.any succeeded push oldest_wanted others told_of top rest wire.wire_start wire.wire_byte wire.wire_end begins passes marked ending is_coming overran room at_newest rx_status marks reading.discard without_oldest
not_at_rest = record { with_frame = refl; without_frame = refl }

pub wrong_services : WrongServicesHandUpDamage
unfolding start opened pass heard opens next after open_call run open_talk idle_talk fetch_talk read_words access effect commanded command act acknowledge settle power_on write_word write_byte write write1 write2 covers_low covers_high interrupting early_flag told_flag due enable queue.free queue.room tx_size rx_size some complete word_at window1 after_word status_of card.wire_start card.wire_byte card.wire_end wire.wire_start wire.wire_byte wire.wire_end begins passes marked ending is_coming overran room at_newest rx_status marks readable oldest data_word after_read reading.discard without_oldest
wrong_services = record { bit_15_for_14 = refl; first_block = refl; right_after = refl; right_before = refl }
