-- What the contracts leave free is really free: the bytes that the view does not show. Assumes nothing.
use Rattle.std.specs.Prelude.{◌≡◌, true, List, ℕ, length, Ok}
use Rattle.card_rules.specs.declared.Card.{Card}
use Rattle.card_rules.specs.Calls.{is_word}
use Rattle.card_rules.specs.CardContracts as contract

-- A card at power-on stores no frame. After a word is written to it, any memory of the right size meets the contract.
abbrev pub TheMemoryIsLeftFree : Type 0
TheMemoryIsLeftFree =
    (words : List ℕ) (c : Card) → contract.PowerOn words c → (ram dir ram' dir' : List ℕ) →
    length ram ≡ 8192 → length dir ≡ 1110 → length ram' ≡ 8192 → length dir' ≡ 1110 → (o v : ℕ) → is_word o ≡ true →
    contract.WritesWord c ram dir o v (record { card = c; answer = Ok tt }) ram' dir'
