-- Worked examples of refusal 1, by computing; those of the others stand in `CardTestsExamples`. Assumes nothing.
use mathlib.Core.Path.{◌≡◌, refl}
use mathlib.Core.Bool.{true, false}
use mathlib.Core.List.{List, []}
use Prim.Native.Nat.{ℕ}
use lib.ListN.{replicate}
use Rattle.port_rules.specs.Card.{id_fresh}
use Rattle.port_rules.specs.Sound.{id_sound}
use Rattle.store.specs.Store.{frames, room_of}
use Rattle.receive_rules.specs.Sound as rxs
use Rattle.receive_rules.specs.Reading.{readable}
use Rattle.receive_rules.specs.View as rx
use Rattle.transmit_rules.specs.Queue as queue
use Rattle.transmit_rules.specs.QueueSound.{all_sized}
use Rattle.transmit_rules.specs.QueueView as fifo
use Rattle.transmit_rules.specs.Outcome.{at_power_on, due, some}
use Rattle.transmit_rules.specs.OutcomesView.{sound_outcomes}
use Rattle.receive_rules.specs.Reading.{complete}
use Rattle.receive_rules.specs.Frame.{room}
use Rattle.transmit_rules.specs.View as tx
use Rattle.card_rules.specs.declared.Card.{Card}
use Rattle.card_rules.specs.Update.{select_window}
use Rattle.card_rules.specs.Groups.{card_select}
use Rattle.card_rules.specs.Room.{rx_size, tx_size}
use Rattle.card_rules.specs.Status.{interrupting}
use Rattle.card_rules.specs.Sound.{select_sound}
use Rattle.card_rules.specs.View.{view, sound_card}
use Rattle.card_rules.specs.Calls.{refused, done, replying, judged, is_word}
use Rattle.card_rules.proofs.Blank.{started}

-- a card at power-on but for its window; its memory matters to no frame and no packet
in_window : ℕ → Card
in_window w =
    let words : List ℕ = replicate 64 0 in
    let c = started words 0 (id_fresh words) (record { sender = at_power_on.sender; statuses = record { entries = replicate 31 0; count = 0 } }) in
    card_select (select_window w c.select) c

-- 1: there is no window 8
sound_in_1 : sound_card (in_window 1) [] [] ≡ true
unfolding in_window sound_card view id_sound select_sound rx.sound_side tx.sound_side fifo.sound_fifo fifo.part_of sound_outcomes frames room_of room rxs.in_order rxs.early_settled readable complete some queue.room queue.free all_sized due interrupting rx_size tx_size
sound_in_1 = refl

unsound_in_8 : sound_card (in_window 8) [] [] ≡ false
unfolding in_window sound_card view id_sound select_sound rx.sound_side tx.sound_side fifo.sound_fifo fifo.part_of sound_outcomes frames room_of room rxs.in_order rxs.early_settled readable complete some queue.room queue.free all_sized due interrupting rx_size tx_size
unsound_in_8 = refl

state-unsound : judged (sound_card (in_window 8) [] []) (is_word 0x0E) 12 ≡ 1
unfolding judged in_window sound_card view id_sound select_sound rx.sound_side tx.sound_side fifo.sound_fifo fifo.part_of sound_outcomes frames room_of room rxs.in_order rxs.early_settled readable complete some queue.room queue.free all_sized due interrupting rx_size tx_size
state-unsound = refl

-- a refused call answers its number, another what its step answers
answers_12 : replying 12 done ≡ refused 12
unfolding replying
answers_12 = refl

answers-done : replying 0 done ≡ done
unfolding replying
answers-done = refl
