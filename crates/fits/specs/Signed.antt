-- RX Status tells the unread bytes as a signed number, and the rules that go by it are the rules before it. Assumes nothing.
use Rattle.std.specs.Prelude.{◌≡◌, ◌⊎◌, Bool, true, false, cond, ◌||◌, List, [], ◌∷◌, ℕ, zero, suc, ◌+◌, ◌-◌, ◌%◌, ltb, ℤ, pos, negsuc, ◌≤ℤ◌, length, Result, Ok, Err}
use Rattle.refusal.specs.declared.Refusal.{Refusal}
use Rattle.bits.specs.Bits.{has}
use Rattle.refusal.specs.declared.Refusal.TheVariants.{CardUnfit}
use Rattle.receive_rules.specs.Frame.{Frame, Rx}
use Rattle.receive_rules.specs.Count.{decoded}
use Rattle.receive_rules.specs.Reading as reading
use Rattle.receive_rules.specs.Reading.{marks, readable, beyond}
use Rattle.receive_rules.specs.Sound.{sound}
use Rattle.card_rules.specs.declared.Card.{Card}
use Rattle.card_rules.specs.declared.RxStatus.{RxStatus}
use Rattle.card_rules.specs.declared.After.{After as AfterCard}
use Rattle.card_rules.specs.View.{view}
use Rattle.card_rules.specs.Read.{window1}
use Rattle.card_rules.specs.Calls.{value, read_reply}
use Rattle.card_rules.specs.CardContracts as contract
use Rattle.driver_rules.specs.declared.Driver.{Driver}
use Rattle.driver_rules.specs.Registers.{status_port, rx_status, rx_discard, unfit, tx_complete, rx_complete, bad, length_in}
use Rattle.driver_rules.specs.Talk.{Talk, done, read_word, order}
use Rattle.driver_rules.specs.Items.{Serving, plain, short, report_talk, idle_talk, fetch_talk}
use Rattle.driver_rules.specs.Service.{look_talk}

-- ---- the rules before: bits 10-0 by themselves, and a failure by the bytes that may be read

abbrev pub status_before : ℕ → List Frame → ℕ
status_before read [] = 32768
status_before read (f ∷ fs) = marks f.state + (length f.bytes + 2048 - read) % 2048

-- the word's second byte is none that may be read
abbrev pub beyond_before : Rx → Bool
beyond_before x = ltb (readable x.frames) (x.receiver.read + 2)

abbrev pub bad_before : ℕ → Bool
bad_before rx = has 16384 rx || (ltb (rx % 2048) 60 || ltb 1514 (rx % 2048))

-- a whole service
unfoldable mutual
  pub look_before : ℕ → Driver → Talk Serving
  look_before zero d = done (short d)
  look_before (suc left) d =
      read_word status_port (λ status.
      cond (unfit status) (done (plain (Err CardUnfit) d))
      (cond (tx_complete status) (report_talk left d)
      (cond (rx_complete status) (receive_before left d)
      (idle_talk left d))))

  pub receive_before : ℕ → Driver → Talk Serving
  receive_before zero d = done (short d)
  receive_before (suc left) d =
      read_word rx_status (λ rx.
      cond (bad_before rx) (drop_before left d) (fetch_talk left d (rx % 2048)))

  pub drop_before : ℕ → Driver → Talk Serving
  drop_before zero d = done (short d)
  drop_before (suc left) d = order rx_discard 0 (look_before left d)

-- ---- what the public call answers

-- the word w and the count n, of a card that is handed in
pub record Tells (c : Card) (ram dir : List ℕ) (w : ℕ) (n : ℤ) : Type 0 where
  -- -3 to 1,792
  pub least : negsuc 2 ≤ℤ n
  pub most : n ≤ℤ pos 1792
  -- the word says the count too
  pub decodes : c.id.active ≡ true → decoded w ≡ n
  -- .. and is what the register of window 1 shows, whatever window is selected
  pub register : c.id.active ≡ true → w ≡ window1 0x08 (view c ram dir)
  -- .. so it is what `read_word` answers at 08h in window 1, and of an inactive card
  pub read : (c.id.active ≡ false) ⊎ (c.select.window ≡ 1) → (r : AfterCard ℕ) → contract.ReadsWord c ram dir 0x08 r → read_reply r.answer ≡ value w
  pub inactive : c.id.active ≡ false → (w ≡ 0xFFFF) × (n ≡ pos 0)
  pub empty : c.id.active ≡ true → (view c ram dir).rx.frames ≡ [] → (w ≡ 0x8000) × (n ≡ pos 0)

-- ---- the statement

pub record UnreadBytesAreSigned : Type 0 where
  pub told : (c : Card) (ram dir : List ℕ) (r : Result RxStatus Refusal) (w : ℕ) (n : ℤ) → contract.TellsRxStatus c ram dir r → r ≡ Ok (record { word = w; unread = n }) → Tells c ram dir w n
  -- RX Status of every sound receive side
  pub status : (size : ℕ) (x : Rx) → sound size x ≡ true → reading.rx_status x.receiver.read x.frames ≡ status_before x.receiver.read x.frames
  -- the failure of a data read, in every state
  pub failure : (x : Rx) → beyond x ≡ beyond_before x
  -- the driver's judgement of every word, the length of a good frame, and a whole service
  pub judgement : (rx : ℕ) → bad rx ≡ bad_before rx
  pub size : (rx : ℕ) → bad rx ≡ false → length_in rx ≡ rx % 2048
  pub service : (budget : ℕ) (d : Driver) → look_talk budget d ≡ look_before budget d
