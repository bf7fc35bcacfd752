-- Every public call's refusals come in the one order of `refusal`: its tests are a row of that order, and it is refused by the first that holds.
-- Those of the catalogue's calls stand in `catalogue_fits`. Assumes nothing.
use Rattle.std.specs.Prelude.{◌≡◌, Bool, true, not, List, [], ◌∷◌, ℕ, length, eqb, ltb, Result, Ok, Err}
use Rattle.refusal.specs.declared.Refusal.{Refusal}
use Rattle.refusal.specs.declared.Refusal.TheVariants.{StateUnsound, LengthOutside, SixteenUnreported, NoRoom, CardUnfit, AreaShort, MakerWrong, ChecksumWrong, SecondaryWrong, OutOfTurn, ArgumentOutside, NeverOpened}
use Rattle.refusal.specs.Number.{number_of}
use Rattle.refusal.specs.Order.{Test, if, Outcome, fine, because, first_of, number_in, in_order}
use Rattle.image_rules.specs.Image.{word_at, checksum_of, secondary_of, check_of}
use Rattle.port_rules.specs.declared.Bus.{Bus}
use Rattle.port_rules.specs.Port.{held}
use Rattle.port_rules.specs.Gathered.{all_sound}
use Rattle.port_rules.specs.Calls as port
use Rattle.card_rules.specs.Adapter.{Adapter}
use Rattle.card_rules.specs.Access.{access, ReadWord}
use Rattle.card_rules.specs.RxStatus.{rx_told}
use Rattle.card_rules.specs.Tests.{judged}
use Rattle.driver_rules.specs.declared.Driver.{Driver}
use Rattle.driver_rules.specs.Registers.{status_port, tx_free, unfit}
use Rattle.driver_rules.specs.Packet.{outside, lacks_room}
use Rattle.driver_rules.specs.Talk.{Talk, done, run}
use Rattle.driver_rules.specs.Items.{Serving, plain}
use Rattle.driver_rules.specs.Service.{look_talk}
use Rattle.driver_rules.specs.Calls.{open_call, send_call, service_call}

-- The outcome is that of a row of the order.
pub record Row (outcome : Outcome) (tests : List Test) : Type 0 where
  pub in_order : in_order tests ≡ true
  pub first : outcome ≡ first_of tests

-- what an answer says of a refusal
abbrev pub of_answer : {T : Type 0} → Result T Refusal → Outcome
of_answer (Ok x) = fine
of_answer (Err why) = because why

-- ---- the tests of each call, in the order

-- The state is unsound; then the call's own refusal.
abbrev pub own : Bool → Bool → Refusal → List Test
own sound ok why = if (not sound) StateUnsound ∷ if (not ok) why ∷ []

abbrev pub image_tests : List ℕ → List Test
image_tests image =
    if (not (eqb (length image) 128)) LengthOutside
    ∷ if (not (eqb (word_at image 0x07) 0x6D50)) MakerWrong
    ∷ if (not (eqb (word_at image 0x0F) (checksum_of image))) ChecksumWrong
    ∷ if (not (eqb (word_at image 0x17) (secondary_of image))) SecondaryWrong
    ∷ []

-- Status as the send reads it, and TX Free read behind it.
abbrev pub status_read : Adapter → ℕ
status_read a = (access (ReadWord status_port) a).value

abbrev pub free_read : Adapter → ℕ
free_read a = (access (ReadWord tx_free) (access (ReadWord status_port) a).adapter).value

abbrev pub send_tests : Bool → Driver → List ℕ → Adapter → List Test
send_tests sound d packet a =
    if (not sound) StateUnsound
    ∷ if (not d.opened) NeverOpened
    ∷ if (outside (length packet)) LengthOutside
    ∷ if (ltb 15 d.unreported) SixteenUnreported
    ∷ if (unfit (status_read a)) CardUnfit
    ∷ if (lacks_room (free_read a) (length packet)) NoRoom
    ∷ []

-- Before a service's first access.
abbrev pub service_tests : Bool → Bool → Driver → List Test
service_tests sound areas d =
    if (not sound) StateUnsound
    ∷ if (not d.opened) NeverOpened
    ∷ if (not areas) AreaShort
    ∷ []

-- refused so, with the bus or the driver as it came; or what follows
abbrev pub or_refusing : Outcome → Bus → port.Outcome → port.Outcome
or_refusing fine b o = o
or_refusing (because why) b o = port.refusing (number_of why) b

abbrev pub or_done : Outcome → Driver → Talk Serving → Talk Serving
or_done fine d talk = talk
or_done (because why) d talk = done (plain (Err why) d)

-- ---- the statement

pub record RefusalsComeInOrder : Type 0 where
  -- A register access is judged by 1 and 12, an event of the wire by 1 and 11.
  pub accesses : (sound ok : Bool) → (in_order (own sound ok ArgumentOutside) ≡ true) × (judged sound ok 12 ≡ number_in (first_of (own sound ok ArgumentOutside)))
  pub events : (sound ok : Bool) → (in_order (own sound ok OutOfTurn) ≡ true) × (judged sound ok 11 ≡ number_in (first_of (own sound ok OutOfTurn)))
  -- What a card tells without a step, RX Status, by 1 alone.
  pub tellings : (sound : Bool) (a : Adapter) → Row (of_answer (rx_told sound a)) (if (not sound) StateUnsound ∷ [])
  -- A call at the ID port by 1 and 12.
  pub port : (b : Bus) (ok : Bool) (o : port.Outcome) → (in_order (own (all_sound (held b)) ok ArgumentOutside) ≡ true) × (port.judged b ok o ≡ or_refusing (first_of (own (all_sound (held b)) ok ArgumentOutside)) b o)
  -- An image by 2, 8, 9 and 10.
  pub image : (image : List ℕ) → Row (of_answer (check_of image)) (image_tests image)
  -- Open by 1; send by 1, 13, 2, 3, and then by what it reads, 5 and 4; a service by 1, 13 and 7 before its first access.
  pub opens : (sound : Bool) (d : Driver) (w₀ w₁ w₂ : ℕ) (a : Adapter) → Row (of_answer (run (open_call sound d w₀ w₁ w₂) a).answer.answer) (if (not sound) StateUnsound ∷ [])
  pub sends : (sound : Bool) (d : Driver) (packet : List ℕ) (a : Adapter) → Row (of_answer (run (send_call sound d packet) a).answer.answer) (send_tests sound d packet a)
  pub services : (sound areas : Bool) (d : Driver) (budget : ℕ) → (in_order (service_tests sound areas d) ≡ true) × (service_call sound areas d budget ≡ or_done (first_of (service_tests sound areas d)) d (look_talk budget d))
