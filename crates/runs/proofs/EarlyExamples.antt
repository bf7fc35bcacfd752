-- The two rules on one card, computed: with RX Early set to 4, the rule reads back 8, and the rule before it 4; the Status words are the same. Assumes nothing.
use mathlib.Core.Path.{◌≡◌, refl}
use mathlib.Core.List.{List, [], ◌∷◌}
use lib.ListN.{replicate}
use Rattle.port_rules.specs.Card.{activated}
use Rattle.receive_rules.specs.Frame.{is_coming, room}
use Rattle.receive_rules.specs.Wire as wire
use Rattle.receive_rules.specs.Reading.{complete}
use Rattle.receive_rules.specs.Early.{early_flag, told_flag}
use Rattle.transmit_rules.specs.Queue as queue
use Rattle.transmit_rules.specs.Outcome.{some, due}
use Rattle.card_rules.specs.Update.{with_id}
use Rattle.card_rules.specs.Room.{rx_size, tx_size}
use Rattle.card_rules.specs.Status.{status_of, interrupting, status_word}
use Rattle.card_rules.specs.Settle.{settle}
use Rattle.card_rules.specs.Power.{power_on}
use Rattle.card_rules.specs.Command.{act, command, commanded}
use Rattle.card_rules.specs.Read.{window5, word_at}
use Rattle.card_rules.specs.Write.{write_word}
use Rattle.card_rules.specs.Access.{ReadWord, WriteWord, effect, access}
use Rattle.card_rules.specs.Event as card
use Rattle.driver_rules.specs.Driver.{never_opened}
use Rattle.runs.specs.Run.{Bench, Start, Earlier, Host, Later, next, permitted, before, since}
use Rattle.runs.specs.AsGiven.{given_command, given_effect, given_access, given_next, given_before, given_since}

-- a power-on card with words of zero, activated
on : Bench
on = let a = power_on (replicate 64 0) 0 in record { adapter = with_id (activated 0 a.id) a; driver = never_opened }

-- window 5; all frames; Read Zero FFh; RX Enable; RX Early 4
steps : List Earlier
steps = Host (WriteWord 14 0x0805) ∷ (Host (WriteWord 14 0x8008) ∷ (Host (WriteWord 14 0x78FF) ∷ (Host (WriteWord 14 0x2000) ∷ (Host (WriteWord 14 0x8804) ∷ []))))

reads_8 : (access (ReadWord 6) (since steps on).adapter).value ≡ 8
unfolding on steps since before permitted access effect write_word commanded command act settle power_on interrupting early_flag told_flag due queue.free queue.room tx_size some complete word_at window5
reads_8 = refl

read_4 : (given_access (ReadWord 6) (given_since steps on).adapter).value ≡ 4
unfolding on steps given_since given_before permitted given_access given_effect given_command effect write_word commanded command act settle power_on interrupting early_flag told_flag due queue.free queue.room tx_size some complete word_at window5
read_4 = refl

-- .. and with the start of a frame both show RX Early
begun : List Earlier
begun = Later (Start (replicate 8 0) refl) ∷ []

shows : status_word (since begun (since steps on)).adapter ≡ 0xA020
unfolding on steps begun since before next permitted access effect write_word commanded command act settle power_on interrupting early_flag told_flag due queue.free queue.room tx_size rx_size some complete status_of card.wire_start wire.wire_start wire.begins wire.passes is_coming room
shows = refl

showed : status_word (given_since begun (given_since steps on)).adapter ≡ 0xA020
unfolding on steps begun given_since given_before given_next next permitted given_access given_effect given_command effect write_word commanded command act settle power_on interrupting early_flag told_flag due queue.free queue.room tx_size rx_size some complete status_of card.wire_start wire.wire_start wire.begins wire.passes is_coming room
showed = refl
