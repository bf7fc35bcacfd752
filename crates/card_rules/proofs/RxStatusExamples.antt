-- RX Status as `rx_status` tells it, computed. Assumes nothing.
use mathlib.Core.Path.{◌≡◌, refl}
use mathlib.Core.Bool.{true, false}
use mathlib.Core.List.{List, [], ◌∷◌}
use Prim.Native.Nat.{ℕ}
use lib.IntN.{pos, negsuc}
use lib.ListN.{replicate}
use Rattle.refusal.specs.declared.Refusal.TheVariants.{StateUnsound}
use Rattle.port_rules.specs.Card.{activated}
use Rattle.receive_rules.specs.Frame.{Frame, damaged, whole}
use Rattle.receive_rules.specs.Reading.{marks, rx_status}
use Rattle.receive_rules.specs.Update.{with_read, with_receiver, with_frames}
use Rattle.std.specs.Prelude.{Ok, Err}
use Rattle.card_rules.specs.Adapter.{Adapter}
use Rattle.card_rules.specs.Update.{with_id, with_select, with_rx, select_window}
use Rattle.card_rules.specs.Power.{power_on}
use Rattle.card_rules.specs.RxStatus.{rx_word, rx_unread, rx_told}

-- an active card in this window, with these frames, of the first of which so many bytes were read
card : ℕ → List Frame → ℕ → Adapter
card window frames read =
    let a = power_on [] 0 in
    with_id (activated 0 a.id) (with_select (select_window window a.select) (with_rx (with_frames frames (with_receiver (with_read read a.rx.receiver) a.rx)) a))

frame : List Frame
frame = record { bytes = replicate 61 7; state = whole } ∷ []

-- 61 bytes: none read, in window 1; 62 read, in window 0; 64 read, in window 3
in_any_window : (rx_told true (card 1 frame 0) ≡ Ok (record { word = 0x003D; unread = (pos 61) })) × ((rx_told true (card 0 frame 62) ≡ Ok (record { word = 0x07FF; unread = (negsuc 0) })) × (rx_told true (card 3 frame 64) ≡ Ok (record { word = 0x07FD; unread = (negsuc 2) })))
unfolding rx_told rx_word rx_unread rx_status marks card frame power_on
in_any_window = (refl, (refl, refl))

-- 1,515 bytes, code 1; an empty store
long_and_none : (rx_told true (card 5 (record { bytes = replicate 1515 7; state = damaged 1 } ∷ []) 0) ≡ Ok (record { word = 0x4DEB; unread = (pos 1515) })) × (rx_told true (card 2 [] 0) ≡ Ok (record { word = 0x8000; unread = (pos 0) }))
unfolding rx_told rx_word rx_unread rx_status marks card power_on
long_and_none = (refl, refl)

-- an inactive card; an unsound state
none_told : (rx_told true (power_on [] 0) ≡ Ok (record { word = 0xFFFF; unread = (pos 0) })) × (rx_told false (card 1 frame 0) ≡ Err StateUnsound)
unfolding rx_told rx_word rx_unread power_on
none_told = (refl, refl)
