-- RX Status as `rx_status` tells it: the register of window 1, whatever window is selected. Assumes nothing.
use Rattle.std.specs.Prelude.{Bool, cond, ℕ, ℤ, pos, Result, Ok, Err}
use Rattle.refusal.specs.declared.Refusal.{Refusal}
use Rattle.refusal.specs.declared.Refusal.TheVariants.{StateUnsound}
use Rattle.receive_rules.specs.Reading.{rx_status, unread_in}
use Rattle.card_rules.specs.declared.RxStatus.{RxStatus}
use Rattle.card_rules.specs.Adapter.{Adapter}

-- The word. An inactive card reads all ones.
unfoldable pub rx_word : Adapter → ℕ
rx_word a = cond a.id.active (rx_status a.rx.receiver.read a.rx.frames) 65535

-- The unread bytes. Of an inactive card 0 is told.
unfoldable pub rx_unread : Adapter → ℤ
rx_unread a = cond a.id.active (unread_in a.rx.receiver.read a.rx.frames) (pos 0)

-- Both, or 1 of an unsound state.
unfoldable pub rx_told : Bool → Adapter → Result RxStatus Refusal
rx_told sound a = cond sound (Ok (record { word = rx_word a; unread = rx_unread a })) (Err StateUnsound)
