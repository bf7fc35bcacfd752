-- The card's calls: some result x meets the contract of the public call, and r is x in numbers. That contract determines x. Assumes nothing.
use Rattle.std.specs.Prelude.{◌≡◌, Bool, List, ℕ, Result, ⊤}
use Rattle.refusal.specs.declared.Refusal.{Refusal}
use Rattle.port_rules.specs.declared.IdState.{IdState}
use Rattle.card_rules.specs.declared.Card.{Card}
use Rattle.card_rules.specs.declared.After.{After}
use Rattle.card_rules.specs.declared.RxStatus.{RxStatus}
use Rattle.card_rules.specs.CardContracts as contract
use Rattle.codes.specs.declared.cards.CardDone.{CardDone}
use Rattle.codes.specs.declared.cards.CardLine.{CardLine}
use Rattle.codes.specs.declared.cards.CardRead.{CardRead}
use Rattle.codes.specs.declared.cards.CardTold.{CardTold}
use Rattle.codes.specs.declared.cards.CardRxStatus.{CardRxStatus}
use Rattle.codes.specs.Codes.{coded_done, coded_read, coded_told, coded_line, coded_rx_status}

-- Power-on, whatever the memory.
abbrev pub PowersOn : List ℕ → Card → Type 0
PowersOn words r = contract.PowerOn words r

-- the contract of a read, and of a call that is done, in numbers
abbrev pub Reads : (After ℕ → Type 0) → CardRead → Type 0
Reads meets r = (x : After ℕ) × ((r ≡ coded_read x) × meets x)

abbrev pub Does : (After ⊤ → Type 0) → CardDone → Type 0
Does meets r = (x : After ⊤) × ((r ≡ coded_done x) × meets x)

module _ (c : Card) (ram dir : List ℕ) where
  abbrev pub ReadsWord : ℕ → CardRead → Type 0
  ReadsWord o r = Reads (contract.ReadsWord c ram dir o) r

  abbrev pub ReadsByte : ℕ → CardRead → Type 0
  ReadsByte o r = Reads (contract.ReadsByte c ram dir o) r

  abbrev pub WritesWord : ℕ → ℕ → CardDone → List ℕ → List ℕ → Type 0
  WritesWord o v r ram' dir' = Does (λ x. contract.WritesWord c ram dir o v x ram' dir') r

  abbrev pub WritesByte : ℕ → ℕ → CardDone → List ℕ → List ℕ → Type 0
  WritesByte o v r ram' dir' = Does (λ x. contract.WritesByte c ram dir o v x ram' dir') r

  abbrev pub Starts : List ℕ → CardDone → List ℕ → List ℕ → Type 0
  Starts first r ram' dir' = Does (λ x. contract.WireStart c ram dir first x ram' dir') r

  abbrev pub Brings : ℕ → CardDone → List ℕ → List ℕ → Type 0
  Brings b r ram' dir' = Does (λ x. contract.WireByte c ram dir b x ram' dir') r

  abbrev pub Ends : Bool → Bool → CardDone → List ℕ → List ℕ → Type 0
  Ends check alignment r ram' dir' = Does (λ x. contract.WireEnd c ram dir check alignment x ram' dir') r

  abbrev pub Collides : CardDone → List ℕ → List ℕ → Type 0
  Collides r ram' dir' = Does (λ x. contract.Collisions c ram dir x ram' dir') r

  abbrev pub Seats : IdState → CardDone → Type 0
  Seats i r = Does (contract.Seat c ram dir i) r

  -- A success: the step, how many bytes the wire is told, and the area that they lie in.
  abbrev pub Succeeds : List ℕ → CardTold → List ℕ → List ℕ → List ℕ → Type 0
  Succeeds out r ram' dir' out' = (x : After ℕ) × ((r ≡ coded_told x) × (contract.Success c ram dir x ram' dir' × contract.SuccessArea c ram dir out out'))

  -- The interrupt line: the card is not handed back, since it stays as it is.
  abbrev pub Drives : CardLine → Type 0
  Drives r = (x : Result ℕ Refusal) × ((r ≡ coded_line x) × contract.InterruptLine c ram dir x)

  -- RX Status: the card stays as it is, too.
  abbrev pub Shows : CardRxStatus → Type 0
  Shows r = (x : Result RxStatus Refusal) × ((r ≡ coded_rx_status x) × contract.TellsRxStatus c ram dir x)
