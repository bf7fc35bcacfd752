-- Send on an opened card, by computing. Assumes nothing.
use mathlib.Core.Path.{refl}
use Rattle.receive_rules.specs.Reading.{complete}
use Rattle.receive_rules.specs.Early.{early_flag, told_flag}
use Rattle.transmit_rules.specs.Queue as queue
use Rattle.transmit_rules.specs.Write.{put, completed}
use Rattle.transmit_rules.specs.Outcome.{some, enable, due}
use Rattle.card_rules.specs.Room.{tx_size, rx_size}
use Rattle.card_rules.specs.Status.{status_of, interrupting}
use Rattle.card_rules.specs.Settle.{settle}
use Rattle.card_rules.specs.Power.{power_on}
use Rattle.card_rules.specs.Command.{act, command, commanded}
use Rattle.card_rules.specs.Read.{window1, word_at, after_word}
use Rattle.card_rules.specs.Write.{covers_low, covers_high, write, write1, write2, write_word, write_byte}
use Rattle.card_rules.specs.Access.{access, effect}
use Rattle.driver_rules.specs.Talk.{run, write_words, words_of}
use Rattle.driver_rules.specs.Open.{open_talk}
use Rattle.driver_rules.specs.Send.{send_talk}
use Rattle.driver_rules.specs.Calls.{send_call}
use Rattle.driver_examples.specs.Ready.{on, opens}
use Rattle.driver_examples.specs.Send.{SendExamples}

pub send_examples_lem : SendExamples
unfolding on opens run open_talk access effect commanded command act settle power_on write_word write_byte write write2 covers_low covers_high interrupting early_flag told_flag due enable queue.free queue.room tx_size rx_size some complete word_at status_of send_talk after_word write_words words_of write1 put completed window1 send_call
send_examples_lem =
    record {
      first_ticket = (refl, refl);
      second_ticket = refl;
      unopened = (refl, refl);
      small = (refl, refl);
      large = (refl, refl);
      many = (refl, refl);
      unfit = (refl, refl);
      unsound = (refl, refl);
      taken_28 = refl;
      refused_29 = (refl, refl);
    }
