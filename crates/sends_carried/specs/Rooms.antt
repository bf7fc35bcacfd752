-- The bench table's line of TX Free: 14 bytes leave 3,052 of 3,072; two of 1,514 leave 32, then 28 is taken and 29 refused 4. Assumes nothing.
use Rattle.std.specs.Prelude.{◌≡◌, true, List, [], ◌∷◌, ℕ, ◌%◌, length, get_or}
use Rattle.port_rules.specs.Card.{activated}
use Rattle.card_rules.specs.Adapter.{Adapter}
use Rattle.card_rules.specs.Update.{with_id}
use Rattle.card_rules.specs.Power.{power_on}
use Rattle.card_rules.specs.Room as room
use Rattle.card_rules.specs.Room.{tx_size}
use Rattle.driver_rules.specs.Driver.{never_opened}
use Rattle.driver_rules.specs.Paper.{ticket, refused}
use Rattle.runs.specs.Run.{Bench, Open, Send, answered, next, said, after}
use Rattle.sends_carried.specs.Packets.{are_bytes}

-- A card with any EEPROM words, activated at any address, and opened for any station.
unfoldable pub active : List ℕ → ℕ → Adapter
active words at = with_id (activated at (power_on words 0).id) (power_on words 0)

abbrev pub ready : List ℕ → ℕ → ℕ → ℕ → ℕ → Bench
ready words at w₀ w₁ w₂ = next (Open w₀ w₁ w₂) (record { adapter = active words at; driver = never_opened })

abbrev pub tx_free : Bench → ℕ
tx_free b = room.tx_free b.adapter

-- any packet of n bytes
pub record Packet (n : ℕ) (p : List ℕ) : Type 0 where
  pub bytes : are_bytes p ≡ true
  pub size : length p ≡ n

pub record Rows (b : Bench) : Type 0 where
  pub at_first : tx_free b ≡ 3072
  pub fourteen : (p : List ℕ) → Packet 14 p → tx_free (next (Send p) b) ≡ 3052
  pub two : (p q : List ℕ) → Packet 1514 p → Packet 1514 q → tx_free (after (Send p ∷ Send q ∷ []) b) ≡ 32
  pub then_28 : (p q r : List ℕ) → Packet 1514 p → Packet 1514 q → Packet 28 r → said (Send r) (after (Send p ∷ Send q ∷ []) b) ≡ answered (ticket 2) ∷ []
  pub then_29 : (p q r : List ℕ) → Packet 1514 p → Packet 1514 q → Packet 29 r → said (Send r) (after (Send p ∷ Send q ∷ []) b) ≡ answered (refused 4) ∷ []

-- Word 13h gives the transmitter 3,072 bytes.
abbrev pub BenchRowsOfTxFree : Type 0
BenchRowsOfTxFree = (words : List ℕ) (at w₀ w₁ w₂ : ℕ) → tx_size (get_or words 0x13 0 % 4) ≡ 3072 → Rows (ready words at w₀ w₁ w₂)
