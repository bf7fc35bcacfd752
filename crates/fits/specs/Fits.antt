-- Nothing else fits: a field for each public call, over any state and arguments. Assumes nothing.
use Rattle.std.specs.Prelude.{◌≡◌, Bool, true, List, ℕ, suc, length, take, Result, ⊤}
use Rattle.std.specs.Borrow.{Bor}
use Rattle.refusal.specs.declared.Refusal.{Refusal}
use Rattle.refusal.specs.Number.{number_of}
use Rattle.refusal.specs.RefusalContracts as refusal
use Rattle.image_rules.specs.declared.WordOffset.{WordOffset}
use Rattle.image_rules.specs.declared.BytePlace.{BytePlace}
use Rattle.image_rules.specs.declared.Node.{Node}
use Rattle.image_rules.specs.Image as image
use Rattle.image_rules.specs.declared.Text.{Text}
use Rattle.image_rules.specs.Line.{line_of}
use Rattle.image_rules.specs.ImageContracts as of_image
use Rattle.port_rules.specs.declared.IdState.{IdState}
use Rattle.port_rules.specs.Card.{id_fresh, id_write, id_bit, id_after_read}
use Rattle.port_rules.specs.Sound.{id_sound}
use Rattle.port_rules.specs.declared.Bus.{Bus}
use Rattle.port_rules.specs.Calls as port
use Rattle.port_rules.specs.declared.Listed.{Listed}
use Rattle.port_rules.specs.Lent.{lent, wrote_over, read_over, found_over, activated_over}
use Rattle.port_rules.specs.PortContracts as at_port
use Rattle.transmit_rules.specs.Tx.{ready}
use Rattle.card_rules.specs.declared.Card.{Card}
use Rattle.card_rules.specs.View.{view, sound_card}
use Rattle.card_rules.specs.declared.After.{After as AfterCard}
use Rattle.card_rules.specs.Calls.{Reply, refused, value, replying, read_reply, done_reply, told_reply, judged, is_word, is_byte, on_wire, off_wire}
use Rattle.card_rules.specs.Line.{interrupt_line}
use Rattle.card_rules.specs.RxStatus.{rx_told}
use Rattle.card_rules.specs.CardContracts as contract
use Rattle.driver_rules.specs.declared.Driver.{Driver}
use Rattle.driver_rules.specs.declared.After.{After}
use Rattle.driver_rules.specs.declared.Serviced.{Serviced}
use Rattle.driver_rules.specs.Paper.{open_paper, send_paper, service_paper}
use Rattle.driver_rules.specs.Calls.{Opens, Sends, Services}
use Rattle.driver_rules.specs.HandUp.{HandsUp}
use Rattle.fits.specs.Agree.{With, WithAreas, Over, End, SameEnd, is_refusal, Left, SameLeft}

-- Two results that meet a contract agree.
module _ {A : Type 0} where
  abbrev pub Only : (meets : A → Type 0) → (agree : A → A → Type 0) → Type 0
  Only meets agree = (r r' : A) → meets r → meets r' → agree r r'

module _ {A B : Type 0} where
  -- .. where the contract is an equation: a result meets it if it shows what the definition gives, and not otherwise.
  pub record Exactly (meets : A → Type 0) (shows : A → B) (wanted : B) : Type 0 where
    pub only : (r : A) → meets r → shows r ≡ wanted
    pub met : (r : A) → shows r ≡ wanted → meets r

-- ---- the card, handed c with the memory ram and dir

-- The same answer and the same end; the call is refused n exactly when n is the number that `judged` gives.
pub record OneAnswer {A : Type 0} (number : ℕ) (reply : A → Reply) (end : A → End) (meets : A → Type 0) : Type 0 where
  pub answer : Only meets (λ r r'. reply r ≡ reply r')
  pub ends : Only meets (λ r r'. SameEnd (is_refusal (reply r)) (end r) (end r'))
  pub refused_when : (r : A) → meets r → (n : ℕ) → number ≡ suc n → reply r ≡ refused (suc n)
  pub refused_only_when : (r : A) → meets r → (n : ℕ) → reply r ≡ refused n → (number ≡ n) × (n ≡ 0 → ⊥)

-- .. of a read, of a call that answers done, and of a success
abbrev pub OneRead : List ℕ → List ℕ → ℕ → (AfterCard ℕ → Type 0) → Type 0
OneRead ram dir number meets = OneAnswer number (λ r. read_reply r.answer) (λ r. record { card = r.card; ram = ram; dir = dir }) meets

abbrev pub OneCall : ℕ → (AfterCard ⊤ → List ℕ → List ℕ → Type 0) → Type 0
OneCall number meets =
    OneAnswer {A = With (AfterCard ⊤)} number (λ r. done_reply r.result.answer) (λ r. record { card = r.result.card; ram = r.ram; dir = r.dir })
    (λ r. meets r.result r.ram r.dir)

abbrev pub OneSuccess : ℕ → (AfterCard ℕ → List ℕ → List ℕ → Type 0) → Type 0
OneSuccess number meets =
    OneAnswer {A = With (AfterCard ℕ)} number (λ r. told_reply r.result.answer) (λ r. record { card = r.result.card; ram = r.ram; dir = r.dir })
    (λ r. meets r.result r.ram r.dir)

module _ (c : Card) (ram dir : List ℕ) where
  -- the order of the refusals: 1, then the call's own
  abbrev number : Bool → ℕ → ℕ
  number ok own = judged (sound_card c ram dir) ok own

  abbrev wire : ℕ
  wire = c.receive.receiver.wire

  abbrev whole_packet : Bool
  whole_packet = ready (view c ram dir).tx

  pub record CardCalls : Type 0 where
    pub read_word : (o : ℕ) → OneRead ram dir (number (is_word o) 12) (contract.ReadsWord c ram dir o)
    pub read_byte : (o : ℕ) → OneRead ram dir (number (is_byte c.select.window o) 12) (contract.ReadsByte c ram dir o)
    pub write_word : (o v : ℕ) → OneCall (number (is_word o) 12) (contract.WritesWord c ram dir o v)
    pub write_byte : (o v : ℕ) → OneCall (number (is_byte c.select.window o) 12) (contract.WritesByte c ram dir o v)
    pub wire_start_call : (first : List ℕ) → OneCall (number (off_wire wire) 11) (contract.WireStart c ram dir first)
    pub wire_byte_call : (b : ℕ) → OneCall (number (on_wire wire) 11) (contract.WireByte c ram dir b)
    pub wire_end_call : (check alignment : Bool) → OneCall (number (on_wire wire) 11) (contract.WireEnd c ram dir check alignment)
    pub success : OneSuccess (number whole_packet 11) (contract.Success c ram dir)
    pub success_area : (out : List ℕ) → Only (contract.SuccessArea c ram dir out) (λ out' out''. out' ≡ out'')
    pub collisions : OneCall (number whole_packet 11) (contract.Collisions c ram dir)
    pub seat : (i : IdState) → OneAnswer (number (id_sound i) 1) (λ r. done_reply r.answer) (λ r. record { card = r.card; ram = ram; dir = dir }) (contract.Seat c ram dir i)
    -- these are lent nothing to change
    pub interrupt_line_call : Exactly (contract.InterruptLine c ram dir) read_reply (replying (number true 1) (value (interrupt_line (view c ram dir))))
    pub rx_status_call : Exactly (contract.TellsRxStatus c ram dir) (λ r. r) (rx_told (sound_card c ram dir) (view c ram dir))

-- ---- the driver d, handed the card too

abbrev pub opened : With (After ⊤) → Left
opened r = record { paper = open_paper r.result.answer; driver = r.result.driver; end = record { card = r.result.card; ram = r.ram; dir = r.dir } }

abbrev pub sent : With (After ℕ) → Left
sent r = record { paper = send_paper r.result.answer; driver = r.result.driver; end = record { card = r.result.card; ram = r.ram; dir = r.dir } }

abbrev pub served : WithAreas Serviced → Left
served r = record { paper = service_paper r.result.answer r.result.used; driver = r.result.driver; end = record { card = r.result.card; ram = r.ram; dir = r.dir } }

module _ (c : Card) (ram dir : List ℕ) (d : Driver) where
  abbrev Serves : ℕ → List ℕ → List ℕ → WithAreas Serviced → Type 0
  Serves budget look frame r = Services c ram dir d budget look frame r.result r.ram r.dir r.look r.frame

  pub record DriverCalls : Type 0 where
    pub «open» : (w₀ w₁ w₂ : ℕ) → Only (λ r. Opens c ram dir d w₀ w₁ w₂ r.result r.ram r.dir) (λ r r'. SameLeft (opened r) (opened r'))
    pub send : (packet : List ℕ) → Only (λ r. Sends c ram dir d packet r.result r.ram r.dir) (λ r r'. SameLeft (sent r) (sent r'))
    pub service : (budget : ℕ) (look frame : List ℕ) → Only (Serves budget look frame) (λ r r'. SameLeft (served r) (served r'))
    pub service_used : (budget : ℕ) (look frame : List ℕ) → Only (Serves budget look frame) (λ r r'. r.result.used ≡ r'.result.used)
    pub service_areas : (budget : ℕ) (look frame : List ℕ) → Only (Serves budget look frame) (λ r r'. (r.look ≡ r'.look) × (r.frame ≡ r'.frame))

-- ---- the ID port, with its cards on the bus b

pub record PortCalls (b : Bus) (x : ℕ) : Type 0 where
  pub port_write_call : (byte : ℕ) → Exactly (at_port.PortWrite b x byte) port.wrote_of (port.port_writes b x byte)
  pub port_read_call : Exactly (at_port.PortRead b x) port.read_of (port.port_reads b x)
  pub find_cards : Exactly (at_port.FindCards b x) port.found_of (port.finds_cards b x)
  pub activate_card : (tag base : ℕ) → Exactly (at_port.ActivateCard b x tag base) port.activated_of (port.activates_card b x tag base)

-- .. and in a lent slice
pub record LentCalls (cards : List IdState) (x : ℕ) : Type 0 where
  pub write : (byte : ℕ) → Exactly {A = Over (Result ⊤ Refusal)} (λ r. at_port.LentWrite cards x byte r.answer r.cards) (λ r. wrote_over r.answer r.cards) (port.port_writes (lent cards) x byte)
  pub read : Exactly {A = Over (Result ℕ Refusal)} (λ r. at_port.LentRead cards x r.answer r.cards) (λ r. read_over r.answer r.cards) (port.port_reads (lent cards) x)
  pub find : Exactly {A = Over Listed} (λ r. at_port.LentFind cards x r.answer r.cards) (λ r. found_over r.answer r.cards) (port.finds_cards (lent cards) x)
  pub activate : (tag base : ℕ) → Exactly {A = Over (Result ℕ Refusal)} (λ r. at_port.LentActivate cards x tag base r.answer r.cards) (λ r. activated_over r.answer r.cards) (port.activates_card (lent cards) x tag base)

-- ---- the image's line

-- A text says so many bytes; those past its length are free.
abbrev pub text : Text → List ℕ
text r = take r.len r.bytes

abbrev pub SameText : Text → Text → Type 0
SameText r r' = (r.len ≡ r'.len) × (text r ≡ text r')

pub record OneLine (meets : Text → Type 0) (line : List ℕ) : Type 0 where
  pub says : (r : Text) → meets r → text r ≡ line
  pub one : Only meets SameText

-- ---- all of them

pub record NothingElseFits : Type 0 where
  -- card: the end is that of power-on whatever the memory holds
  pub power_on_call : (words ram dir : List ℕ) → length ram ≡ 8192 → length dir ≡ 1110
      → Only (contract.PowerOn words) (λ r r'. view r ram dir ≡ view r' ram dir)
  pub card : (c : Card) (ram dir : List ℕ) → CardCalls c ram dir
  pub driver : (c : Card) (ram dir : List ℕ) (d : Driver) → DriverCalls c ram dir d
  -- the part handed up: its bytes, and its place
  pub hand_up_call : (look frame : Bor (List ℕ)) (n : ℕ) → Only (HandsUp look frame n) (λ r r'. (r.now ≡ r'.now) × (r.ref_ptr ≡ r'.ref_ptr))
  -- port
  pub id_port : (b : Bus) (x : ℕ) → PortCalls b x
  -- lent_port
  pub lent_port : (cards : List IdState) (x : ℕ) → LentCalls cards x
  -- idport, one card on the port
  pub fresh : (words : List ℕ) → Exactly (at_port.Fresh words) (λ r. r) (id_fresh words)
  pub id_sound_call : (s : IdState) → Exactly (at_port.IdSound s) (λ r. r) (id_sound s)
  pub id_write_call : (s : IdState) (x byte : ℕ) → Exactly (at_port.IdWrite s x byte) (λ r. r) (id_write s x byte)
  pub id_bit_call : (s : IdState) (x : ℕ) → Exactly (at_port.IdBit s x) (λ r. r) (id_bit s x)
  pub id_after_read_call : (s : IdState) (x bus : ℕ) → Exactly (at_port.IdAfterRead s x bus) (λ r. r) (id_after_read s x bus)
  -- image_check
  pub place_of_call : (w : WordOffset) → Exactly (of_image.PlaceOf w) (λ r. r.0) (image.place_of w.0)
  pub byte_at_call : (bytes : List ℕ) (place : BytePlace) → Exactly (of_image.ByteAt bytes place) (λ r. r) (image.byte_at bytes place.0)
  pub word_at_call : (bytes : List ℕ) (w : WordOffset) → Exactly (of_image.WordAt bytes w) (λ r. r) (image.word_at bytes w.0)
  pub checksum : (bytes : List ℕ) → Exactly (of_image.Checksum bytes) (λ r. r) (image.checksum_of bytes)
  pub secondary : (bytes : List ℕ) → Exactly (of_image.Secondary bytes) (λ r. r) (image.secondary_of bytes)
  pub check : (bytes : List ℕ) → Exactly (of_image.Check bytes) (λ r. r) (image.check_of bytes)
  pub line : (found : Result Node Refusal) → OneLine (of_image.Line found) (line_of found)
  pub line_judged : (bytes : List ℕ) → OneLine (of_image.Judged bytes) (line_of (image.check_of bytes))
  -- refusal
  pub number : (why : Refusal) → Exactly (refusal.Number why) (λ r. r) (number_of why)
