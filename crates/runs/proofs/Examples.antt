-- A start inside a frame, computed: it is refused, and the state stays sound. Taken, it would leave the frame that was coming without a wire that brings it.
-- Assumes nothing.
use mathlib.Core.Path.{◌≡◌, refl}
use mathlib.Core.Bool.{true}
use mathlib.Core.List.{[], ◌∷◌}
use lib.ListN.{replicate}
use Rattle.port_rules.specs.Sound.{id_sound}
use Rattle.receive_rules.specs.Frame.{is_coming, room}
use Rattle.receive_rules.specs.Update.{with_on, with_wire}
use Rattle.receive_rules.specs.Wire as wire
use Rattle.receive_rules.specs.Reading.{complete, readable}
use Rattle.receive_rules.specs.Early.{early_flag, told_flag}
use Rattle.receive_rules.specs.Sound.{in_order, early_settled}
use Rattle.transmit_rules.specs.Queue as queue
use Rattle.transmit_rules.specs.QueueSound.{all_sized}
use Rattle.transmit_rules.specs.Outcome.{some, due}
use Rattle.card_rules.specs.Update.{with_rx}
use Rattle.card_rules.specs.Room.{rx_size, tx_size}
use Rattle.card_rules.specs.Status.{interrupting}
use Rattle.card_rules.specs.Settle.{settle}
use Rattle.card_rules.specs.Power.{power_on}
use Rattle.card_rules.specs.Sound.{select_sound}
use Rattle.card_rules.specs.Event as card
use Rattle.driver_rules.specs.Driver.{never_opened}
use Rattle.runs.specs.Run.{Bench, sound_bench, Start, refused, next, said}

-- the first 8 bytes of a frame have come, at a card that is not active any more
inside : Bench
inside =
    let a = power_on (replicate 64 0) 0 in
    record {
      adapter = with_rx (record { receiver = with_wire 2 (with_on true a.rx.receiver); frames = wire.fresh (replicate 8 0) ∷ [] }) a;
      driver = never_opened;
    }

sound_inside : sound_bench inside ≡ true
unfolding inside power_on room in_order readable is_coming early_settled complete early_flag told_flag queue.room queue.free all_sized some due rx_size tx_size interrupting select_sound id_sound
sound_inside = refl

refused_inside : said (Start (replicate 8 0) refl) inside ≡ refused 11 ∷ []
unfolding said inside power_on
refused_inside = refl

sound_still : sound_bench (next (Start (replicate 8 0) refl) inside) ≡ true
unfolding next inside card.wire_start wire.wire_start wire.begins settle power_on room in_order readable is_coming early_settled complete early_flag told_flag queue.room queue.free all_sized some due rx_size tx_size interrupting select_sound id_sound
sound_still = refl
