-- The contract of each public call at the ID port, by its name. Assumes nothing.
use Rattle.std.specs.Prelude.{◌≡◌, Bool, List, ℕ, Result, ⊤}
use Rattle.refusal.specs.declared.Refusal.{Refusal}
use Rattle.port_rules.specs.declared.IdState.{IdState}
use Rattle.port_rules.specs.declared.Bus.{Bus}
use Rattle.port_rules.specs.declared.After.{After}
use Rattle.port_rules.specs.declared.AfterSearch.{AfterSearch}
use Rattle.port_rules.specs.declared.Listed.{Listed}
use Rattle.port_rules.specs.Card.{id_fresh, id_write, id_bit, id_after_read}
use Rattle.port_rules.specs.Sound.{id_sound}
use Rattle.port_rules.specs.Calls.{wrote_of, read_of, found_of, activated_of, port_writes, port_reads, finds_cards, activates_card}
use Rattle.port_rules.specs.Lent.{lent, wrote_over, read_over, found_over, activated_over}

-- ---- one card (`idport`), in the ID state s; x is that of port 1x0h

abbrev pub Fresh : List ℕ → IdState → Type 0
Fresh words r = r ≡ id_fresh words

abbrev pub IdSound : IdState → Bool → Type 0
IdSound s r = r ≡ id_sound s

abbrev pub IdWrite : IdState → ℕ → ℕ → IdState → Type 0
IdWrite s x byte r = r ≡ id_write s x byte

abbrev pub IdBit : IdState → ℕ → ℕ → Type 0
IdBit s x r = r ≡ id_bit s x

abbrev pub IdAfterRead : IdState → ℕ → ℕ → IdState → Type 0
IdAfterRead s x bus r = r ≡ id_after_read s x bus

-- ---- the cards on the bus b (`port`)

abbrev pub PortWrite : Bus → ℕ → ℕ → After ⊤ → Type 0
PortWrite b port byte r = wrote_of r ≡ port_writes b port byte

abbrev pub PortRead : Bus → ℕ → After ℕ → Type 0
PortRead b port r = read_of r ≡ port_reads b port

abbrev pub FindCards : Bus → ℕ → AfterSearch → Type 0
FindCards b port r = found_of r ≡ finds_cards b port

abbrev pub ActivateCard : Bus → ℕ → ℕ → ℕ → After ℕ → Type 0
ActivateCard b port tag base r = activated_of r ≡ activates_card b port tag base

-- ---- the cards in a lent slice (`lent_port`): `before` as it is lent, `after` as it comes back

module _ (before : List IdState) (port : ℕ) where
  abbrev pub LentWrite : ℕ → Result ⊤ Refusal → List IdState → Type 0
  LentWrite byte r after = wrote_over r after ≡ port_writes (lent before) port byte

  abbrev pub LentRead : Result ℕ Refusal → List IdState → Type 0
  LentRead r after = read_over r after ≡ port_reads (lent before) port

  abbrev pub LentFind : Listed → List IdState → Type 0
  LentFind r after = found_over r after ≡ finds_cards (lent before) port

  abbrev pub LentActivate : ℕ → ℕ → Result ℕ Refusal → List IdState → Type 0
  LentActivate tag base r after = activated_over r after ≡ activates_card (lent before) port tag base
