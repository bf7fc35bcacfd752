-- One card on the ID port: refused with 1, then with 12 for a port that is not 1x0h; else the card's ID state takes the step and is seated. Assumes nothing.
use Rattle.std.specs.Prelude.{◌≡◌, cond, List, ℕ, min}
use Rattle.port_rules.specs.declared.IdState.{IdState}
use Rattle.port_rules.specs.Card.{id_write, id_bit, id_after_read}
use Rattle.card_rules.specs.declared.Card.{Card}
use Rattle.card_rules.specs.View.{view, sound_card}
use Rattle.card_rules.specs.Event as event
use Rattle.card_rules.specs.Calls.{judged, Does}
use Rattle.port_rules.specs.Gathered.{is_port, digit_of}
use Rattle.codes.specs.declared.cards.CardDone.{CardDone}
use Rattle.abi.specs.declared.ids.CardBit.{CardBit}

abbrev pub refusal : Card → List ℕ → List ℕ → ℕ → ℕ
refusal c ram dir port = judged (sound_card c ram dir) (is_port port) 12

-- The ID state i is seated, unless the call is refused.
pub record Seated (number : ℕ) (i : IdState) (c : Card) (ram dir : List ℕ) (r : CardDone) : Type 0 where
  pub code : r.code ≡ number
  pub does : Does number c r.card ram dir ram dir (event.seat i (view c ram dir))

abbrev pub Writes : Card → List ℕ → List ℕ → ℕ → ℕ → CardDone → Type 0
Writes c ram dir port byte r = Seated (refusal c ram dir port) (id_write c.id (digit_of port) byte) c ram dir r

-- A bit as C hands it in: 0, or else 1.
abbrev pub as_bit : ℕ → ℕ
as_bit bus = min bus 1

abbrev pub Hears : Card → List ℕ → List ℕ → ℕ → ℕ → CardDone → Type 0
Hears c ram dir port bus r = Seated (refusal c ram dir port) (id_after_read c.id (digit_of port) (as_bit bus)) c ram dir r

-- The bit driven, or the refusal and 0.
unfoldable pub bit_of : Card → List ℕ → List ℕ → ℕ → CardBit
bit_of c ram dir port =
    cond (sound_card c ram dir)
    (cond (is_port port) (record { bit = id_bit c.id (digit_of port); code = 0 }) (record { bit = 0; code = 12 }))
    (record { bit = 0; code = 1 })
