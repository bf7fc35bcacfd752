-- Every public call's refusals come in the one order: test by test. Assumes nothing.
use Rattle.std.specs.Prelude.{Ok}
use mathlib.Core.Path.{◌≡◌, refl, ap}
use mathlib.Core.Bool.{Bool, true, false, cond, not}
use mathlib.Core.List.{List, [], ◌∷◌}
use Prim.Native.Nat.{ℕ}
use lib.ListN.{length}
use lib.Dec.{eqb, ltb}
use Rattle.refusal.specs.declared.Refusal.{Refusal}
use Rattle.refusal.specs.declared.Refusal.TheVariants.{StateUnsound, LengthOutside, MakerWrong, ChecksumWrong, SecondaryWrong, OutOfTurn, ArgumentOutside, NeverOpened, AreaShort}
use Rattle.refusal.specs.Order.{if, Outcome, because, first_of, number_in, in_order, is_from, from, any}
use Rattle.image_rules.specs.declared.Node.{Node}
use Rattle.image_rules.specs.Image.{word_at, checksum_of, secondary_of, or_refused, check_of}
use Rattle.port_rules.specs.declared.Bus.{Bus}
use Rattle.port_rules.specs.Port.{held}
use Rattle.port_rules.specs.Gathered.{all_sound}
use Rattle.port_rules.specs.Calls as port
use Rattle.card_rules.specs.Adapter.{Adapter}
use Rattle.card_rules.specs.RxStatus.{rx_told}
use Rattle.card_rules.specs.Tests.{judged}
use Rattle.driver_rules.specs.declared.Driver.{Driver}
use Rattle.driver_rules.specs.Registers.{unfit}
use Rattle.driver_rules.specs.Packet.{outside, lacks_room, packet_words}
use Rattle.driver_rules.specs.Talk.{Talk, done, run}
use Rattle.driver_rules.proofs.Runs.{writes_law}
use Rattle.driver_rules.specs.Open.{open_talk}
use Rattle.driver_rules.specs.Send.{Sending, ticketed, refuses, send_talk}
use Rattle.driver_rules.specs.Items.{Serving}
use Rattle.driver_rules.specs.Service.{look_talk}
use Rattle.driver_rules.specs.Calls.{open_call, send_call, service_call}
use Rattle.fits.specs.Order.{Row, of_answer, own, image_tests, status_read, free_read, send_tests, service_tests, or_refusing, or_done, RefusalsComeInOrder}

-- ---- the card and the ID port

accesses : (sound ok : Bool) → (in_order (own sound ok ArgumentOutside) ≡ true) × (judged sound ok 12 ≡ number_in (first_of (own sound ok ArgumentOutside)))
unfolding judged is_from from any
accesses true true = (refl, refl)
accesses true false = (refl, refl)
accesses false true = (refl, refl)
accesses false false = (refl, refl)

events : (sound ok : Bool) → (in_order (own sound ok OutOfTurn) ≡ true) × (judged sound ok 11 ≡ number_in (first_of (own sound ok OutOfTurn)))
unfolding judged is_from from any
events true true = (refl, refl)
events true false = (refl, refl)
events false true = (refl, refl)
events false false = (refl, refl)

tellings : (sound : Bool) (a : Adapter) → Row (of_answer (rx_told sound a)) (if (not sound) StateUnsound ∷ [])
unfolding rx_told is_from from any
tellings true a = record { in_order = refl; first = refl }
tellings false a = record { in_order = refl; first = refl }

port_by : (sound ok : Bool) (b : Bus) (o : port.Outcome) → cond sound (cond ok o (port.refusing 12 b)) (port.refusing 1 b) ≡ or_refusing (first_of (own sound ok ArgumentOutside)) b o
port_by true true b o = refl
port_by true false b o = refl
port_by false true b o = refl
port_by false false b o = refl

ports : (b : Bus) (ok : Bool) (o : port.Outcome) → (in_order (own (all_sound (held b)) ok ArgumentOutside) ≡ true) × (port.judged b ok o ≡ or_refusing (first_of (own (all_sound (held b)) ok ArgumentOutside)) b o)
unfolding port.judged is_from from any
ports b ok o = (refl, port_by (all_sound (held b)) ok b o)

-- ---- the image

image_by : (a b c d : Bool) (node : Node) →
    of_answer (or_refused a LengthOutside (or_refused b MakerWrong (or_refused c ChecksumWrong (or_refused d SecondaryWrong (Ok node)))))
    ≡ first_of (if (not a) LengthOutside ∷ if (not b) MakerWrong ∷ if (not c) ChecksumWrong ∷ if (not d) SecondaryWrong ∷ [])
image_by false b c d node = refl
image_by true false c d node = refl
image_by true true false d node = refl
image_by true true true false node = refl
image_by true true true true node = refl

images : (image : List ℕ) → Row (of_answer (check_of image)) (image_tests image)
unfolding check_of is_from from any
images image = record { in_order = refl; first = image_by (eqb (length image) 128) (eqb (word_at image 0x07) 0x6D50) (eqb (word_at image 0x0F) (checksum_of image)) (eqb (word_at image 0x17) (secondary_of image)) _ }

-- ---- the driver

-- a send that is refused where a test holds, and goes on where it does not
sends_by : (b : Bool) (why : Refusal) (d : Driver) (rest : Talk Sending) (a : Adapter) (o : Outcome) → of_answer (run rest a).answer.answer ≡ o
    → of_answer (run (cond b (done (refuses d why)) rest) a).answer.answer ≡ cond b (because why) o
unfolding run
sends_by true why d rest a o e = refl
sends_by false why d rest a o e = e

sends-sound : (sound : Bool) (why : Refusal) (d : Driver) (rest : Talk Sending) (a : Adapter) (o : Outcome) → of_answer (run rest a).answer.answer ≡ o
    → of_answer (run (cond sound rest (done (refuses d why))) a).answer.answer ≡ cond (not sound) (because why) o
unfolding run
sends-sound true why d rest a o e = e
sends-sound false why d rest a o e = refl

sends : (sound : Bool) (d : Driver) (packet : List ℕ) (a : Adapter) → Row (of_answer (run (send_call sound d packet) a).answer.answer) (send_tests sound d packet a)
unfolding send_call send_talk run is_from from any
sends sound d packet a =
    record {
      in_order = refl;
      first =
          sends-sound sound _ d _ a _
          (sends_by (not d.opened) _ d _ a _
          (sends_by (outside (length packet)) _ d _ a _
          (sends_by (ltb 15 d.unreported) _ d _ a _
          (sends_by (unfit (status_read a)) _ d _ _ _
          (sends_by (lacks_room (free_read a) (length packet)) _ d _ _ _
          (ap (λ R. of_answer R.answer.answer) (writes_law (packet_words packet) (done (ticketed d)) _)))))));
    }

opens : (sound : Bool) (d : Driver) (w₀ w₁ w₂ : ℕ) (a : Adapter) → Row (of_answer (run (open_call sound d w₀ w₁ w₂) a).answer.answer) (if (not sound) StateUnsound ∷ [])
unfolding open_call open_talk run is_from from any
opens true d w₀ w₁ w₂ a = record { in_order = refl; first = refl }
opens false d w₀ w₁ w₂ a = record { in_order = refl; first = refl }

services_by : (sound opened areas : Bool) (d : Driver) (talk : Talk Serving) →
    cond (not sound) (or_done (because StateUnsound) d talk) (cond (not opened) (or_done (because NeverOpened) d talk) (cond (not areas) (or_done (because AreaShort) d talk) talk))
    ≡ or_done (first_of (if (not sound) StateUnsound ∷ if (not opened) NeverOpened ∷ if (not areas) AreaShort ∷ [])) d talk
services_by false opened areas d talk = refl
services_by true false areas d talk = refl
services_by true true false d talk = refl
services_by true true true d talk = refl

services : (sound areas : Bool) (d : Driver) (budget : ℕ) → (in_order (service_tests sound areas d) ≡ true) × (service_call sound areas d budget ≡ or_done (first_of (service_tests sound areas d)) d (look_talk budget d))
unfolding service_call is_from from any
services sound areas d budget = (refl, services_by sound d.opened areas d (look_talk budget d))

pub refusals_come_in_order_lem : RefusalsComeInOrder
refusals_come_in_order_lem = record { accesses = accesses; events = events; tellings = tellings; port = ports; image = images; opens = opens; sends = sends; services = services }
