-- What services need, by computing what Status and RX Status show; what has no end, by its law. Assumes nothing.
use mathlib.Core.Path.{refl}
use Prim.Native.Nat.{ℕ, suc}
use native.Mathlib.Omega.{arith}
use Rattle.port_rules.specs.Sound.{id_sound}
use Rattle.receive_rules.specs.Frame.{is_coming, overran, room}
use Rattle.receive_rules.specs.Wire as wire
use Rattle.receive_rules.specs.Wire.{passes, begins, marked, ending}
use Rattle.receive_rules.specs.Reading as reading
use Rattle.receive_rules.specs.Reading.{marks, rx_status, complete, readable, oldest, data_word, after_read, without_oldest}
use Rattle.receive_rules.specs.Sound.{in_order, early_settled}
use Rattle.receive_rules.specs.Early.{early_flag, told_flag}
use Rattle.store.specs.Store.{at_newest}
use Rattle.transmit_rules.specs.Queue as queue
use Rattle.transmit_rules.specs.QueueSound.{all_sized}
use Rattle.transmit_rules.specs.Write.{put, completed}
use Rattle.transmit_rules.specs.Leave.{others, oldest_wanted}
use Rattle.transmit_rules.specs.Outcome.{some, push, succeeded, enable, due}
use Rattle.transmit_rules.specs.Tx as tx
use Rattle.card_rules.specs.Adapter.{Adapter}
use Rattle.card_rules.specs.Sound.{select_sound}
use Rattle.card_rules.specs.Room.{tx_size, rx_size}
use Rattle.card_rules.specs.Status.{status_of, interrupting}
use Rattle.card_rules.specs.Settle.{settle}
use Rattle.card_rules.specs.Power.{power_on}
use Rattle.card_rules.specs.Command.{act, command, commanded}
use Rattle.card_rules.specs.Read.{window1, word_at, after_word}
use Rattle.card_rules.specs.Write.{covers_low, covers_high, write, write1, write2, write_word, write_byte}
use Rattle.card_rules.specs.Access.{access, effect}
use Rattle.card_rules.specs.Event.{wire_start, wire_byte, wire_end, success}
use Rattle.driver_rules.specs.Talk.{run, write_words, words_of, after}
use Rattle.driver_rules.specs.Open.{open_talk}
use Rattle.driver_rules.specs.Send.{send_talk}
use Rattle.driver_examples.specs.Ready.{on, opens, bytes, frame}
use Rattle.fits.specs.When.{Short, Needs, unfit_card, report, good_frame_is, damaged_frame, idle}
use Rattle.fits.specs.NeedsExamples.{Past, hidden, WhatServicesNeed}
use Rattle.fits.proofs.Needs.{one_need}
use Rattle.fits.proofs.Endless.{endless}

past : (n : ℕ) (a : Adapter) → Needs a (suc n) → Past n a
past n a h =
    record {
      needs = h;
      is_short_is = λ m k. omega (arith, one_need a (suc n) m h k);
      is_enough = record { need = suc n; needed = h; within = omega arith };
    }

never_enough : (budget : ℕ) → Short budget hidden
unfolding on opens run open_talk access effect commanded command act settle power_on write_word write_byte write write2 covers_low covers_high interrupting early_flag told_flag due enable queue.free queue.room tx_size rx_size some complete word_at status_of bytes frame wire_start wire_byte wire_end wire.wire_start wire.wire_byte wire.wire_end begins passes marked ending is_coming overran room at_newest window1 rx_status marks after_word after after_read readable oldest data_word id_sound select_sound in_order early_settled all_sized
never_enough budget n k = absurd (endless hidden refl refl refl refl refl refl refl refl hidden n refl k)

pub what_services_need_lem : WhatServicesNeed
unfolding on opens run open_talk access effect commanded command act settle power_on write_word write_byte write write2 covers_low covers_high interrupting early_flag told_flag due enable queue.free queue.room tx_size rx_size some complete word_at status_of bytes frame wire_start wire_byte wire_end wire.wire_start wire.wire_byte wire.wire_end begins passes marked ending is_coming overran room at_newest window1 rx_status marks reading.discard without_oldest after_word send_talk write_words words_of write1 put completed success tx.success oldest_wanted others succeeded push
what_services_need_lem =
    record {
      unfit = past 0 _ (unfit_card _ refl);
      nothing = past 1 _ (idle _ refl refl refl);
      report = past 4 _ (report _ refl refl);
      good_60 = past 32 _ (good_frame_is _ refl refl refl refl);
      good_1514 = past 759 _ (good_frame_is _ refl refl refl refl);
      damaged = past 4 _ (damaged_frame _ 2 refl refl refl refl (idle _ refl refl refl));
      endless = never_enough;
    }
