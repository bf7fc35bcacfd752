-- Demand 1: a refused call hands back card, driver, memory and each lent area just as they came. Compared is what the call was handed. Assumes nothing.
use Rattle.std.specs.Prelude.{◌≡◌, Bool, true, false, List, ℕ, Result, ⊤}
use Rattle.refusal.specs.declared.Refusal.{Refusal}
use Rattle.port_rules.specs.declared.IdState.{IdState}
use Rattle.port_rules.specs.declared.Bus.{Bus}
use Rattle.port_rules.specs.declared.After.{After as AfterPort}
use Rattle.port_rules.specs.declared.AfterSearch.{AfterSearch}
use Rattle.port_rules.specs.declared.Listed.{Listed}
use Rattle.port_rules.specs.Calls as port
use Rattle.port_rules.specs.PortContracts as at_port
use Rattle.card_rules.specs.declared.Card.{Card}
use Rattle.card_rules.specs.declared.After.{After as AfterCard}
use Rattle.card_rules.specs.Calls.{read_reply, done_reply, told_reply}
use Rattle.card_rules.specs.CardContracts as contract
use Rattle.driver_rules.specs.declared.Driver.{Driver}
use Rattle.driver_rules.specs.declared.After.{After}
use Rattle.driver_rules.specs.Paper.{open_paper, send_paper}
use Rattle.driver_rules.specs.Calls.{Opens, Sends}
use Rattle.fits.specs.Agree.{is_refusal, is_refused}
use Rattle.over_calls.specs.Kept.{ARefusedServiceChangesNothing, AServiceShortOfBudgetLeavesDriverAndAreas, AServiceShortOfABudgetBelow3ChangesNothing}

-- The card with its memory, as they came.
pub record Same (c r : Card) (ram dir ram' dir' : List ℕ) : Type 0 where
  pub card : r ≡ c
  pub memory : ram' ≡ ram
  pub directory : dir' ≡ dir

-- ---- the card: handed c with the memory ram and dir

module _ (c : Card) (ram dir : List ℕ) where
  pub record Card-keeps : Type 0 where
    pub read_word : (o : ℕ) (r : AfterCard ℕ) → contract.ReadsWord c ram dir o r → is_refusal (read_reply r.answer) ≡ true → r.card ≡ c
    pub read_byte : (o : ℕ) (r : AfterCard ℕ) → contract.ReadsByte c ram dir o r → is_refusal (read_reply r.answer) ≡ true → r.card ≡ c
    pub write_word : (o v : ℕ) (r : AfterCard ⊤) (ram' dir' : List ℕ) → contract.WritesWord c ram dir o v r ram' dir' → is_refusal (done_reply r.answer) ≡ true → Same c r.card ram dir ram' dir'
    pub write_byte : (o v : ℕ) (r : AfterCard ⊤) (ram' dir' : List ℕ) → contract.WritesByte c ram dir o v r ram' dir' → is_refusal (done_reply r.answer) ≡ true → Same c r.card ram dir ram' dir'
    pub wire_start_call : (first : List ℕ) (r : AfterCard ⊤) (ram' dir' : List ℕ) → contract.WireStart c ram dir first r ram' dir' → is_refusal (done_reply r.answer) ≡ true → Same c r.card ram dir ram' dir'
    pub wire_byte_call : (b : ℕ) (r : AfterCard ⊤) (ram' dir' : List ℕ) → contract.WireByte c ram dir b r ram' dir' → is_refusal (done_reply r.answer) ≡ true → Same c r.card ram dir ram' dir'
    pub wire_end_call : (check alignment : Bool) (r : AfterCard ⊤) (ram' dir' : List ℕ) → contract.WireEnd c ram dir check alignment r ram' dir' → is_refusal (done_reply r.answer) ≡ true → Same c r.card ram dir ram' dir'
    -- a success is lent the area that it tells the wire's bytes in, too
    pub success : (out out' : List ℕ) (r : AfterCard ℕ) (ram' dir' : List ℕ) → contract.Success c ram dir r ram' dir' → contract.SuccessArea c ram dir out out' → is_refusal (told_reply r.answer) ≡ true → (out' ≡ out) × Same c r.card ram dir ram' dir'
    pub collisions : (r : AfterCard ⊤) (ram' dir' : List ℕ) → contract.Collisions c ram dir r ram' dir' → is_refusal (done_reply r.answer) ≡ true → Same c r.card ram dir ram' dir'
    pub seat : (i : IdState) (r : AfterCard ⊤) → contract.Seat c ram dir i r → is_refusal (done_reply r.answer) ≡ true → r.card ≡ c

-- ---- the driver d, handed the card too

pub record DriverKeeps (c : Card) (ram dir : List ℕ) (d : Driver) : Type 0 where
  pub opens : (w₀ w₁ w₂ : ℕ) (r : After ⊤) (ram' dir' : List ℕ) → Opens c ram dir d w₀ w₁ w₂ r ram' dir' → is_refused (open_paper r.answer) ≡ true → (r.driver ≡ d) × Same c r.card ram dir ram' dir'
  pub sends : (packet : List ℕ) (r : After ℕ) (ram' dir' : List ℕ) → Sends c ram dir d packet r ram' dir' → is_refused (send_paper r.answer) ≡ true → (r.driver ≡ d) × Same c r.card ram dir ram' dir'

-- ---- the ID port, with its cards on the bus b

abbrev pub is_no : port.Reply → Bool
is_no (port.refused n) = true
is_no (port.told values) = false

pub record PortKeeps (b : Bus) (x : ℕ) : Type 0 where
  pub port_write_call : (byte : ℕ) (r : AfterPort ⊤) → at_port.PortWrite b x byte r → is_no (port.wrote_reply r.answer) ≡ true → r.bus ≡ b
  pub port_read_call : (r : AfterPort ℕ) → at_port.PortRead b x r → is_no (port.bit_reply r.answer) ≡ true → r.bus ≡ b
  pub find_cards : (r : AfterSearch) → at_port.FindCards b x r → is_no (port.found_reply r.answer) ≡ true → r.bus ≡ b
  pub activate_card : (tag base : ℕ) (r : AfterPort ℕ) → at_port.ActivateCard b x tag base r → is_no (port.activation_reply r.answer) ≡ true → r.bus ≡ b

-- .. and in a lent slice: `before` as it is lent, `after` as it comes back
pub record LentKeeps (before : List IdState) (x : ℕ) : Type 0 where
  pub write : (byte : ℕ) (r : Result ⊤ Refusal) (after : List IdState) → at_port.LentWrite before x byte r after → is_no (port.wrote_reply r) ≡ true → after ≡ before
  pub read : (r : Result ℕ Refusal) (after : List IdState) → at_port.LentRead before x r after → is_no (port.bit_reply r) ≡ true → after ≡ before
  pub find : (r : Listed) (after : List IdState) → at_port.LentFind before x r after → is_no (port.found_reply r.answer) ≡ true → after ≡ before
  pub activate : (tag base : ℕ) (r : Result ℕ Refusal) (after : List IdState) → at_port.LentActivate before x tag base r after → is_no (port.activation_reply r) ≡ true → after ≡ before

-- ---- all of them

pub record ARefusedCallChangesNothing : Type 0 where
  pub card : (c : Card) (ram dir : List ℕ) → Card-keeps c ram dir
  pub driver : (c : Card) (ram dir : List ℕ) (d : Driver) → DriverKeeps c ram dir d
  pub service : ARefusedServiceChangesNothing
  pub short : AServiceShortOfBudgetLeavesDriverAndAreas
  pub below_three : AServiceShortOfABudgetBelow3ChangesNothing
  pub id_port : (b : Bus) (x : ℕ) → PortKeeps b x
  pub lent_port : (before : List IdState) (x : ℕ) → LentKeeps before x
