-- Demand 1, call by call: a contract gives what is changed where the call is not refused, and that nothing is where it is. Assumes nothing.
use Rattle.std.specs.Prelude.{Result, Ok, Err, ⊤}
use mathlib.Core.Path.{◌≡◌, refl, sym, ap, ◌∙◌}
use mathlib.Core.Bool.{Bool, true, false, cond, not}
use mathlib.Core.List.{List}
use Prim.Native.Nat.{ℕ, zero, suc}
use lib.ListN.{length}
use lib.Dec.{ltb}
use Rattle.refusal.specs.declared.Refusal.{Refusal}
use Rattle.bits.proofs.Tests.{never}
use Rattle.port_rules.specs.declared.IdState.{IdState}
use Rattle.port_rules.specs.declared.Bus.{Bus}
use Rattle.port_rules.specs.Lent.{lent, wrote_over, read_over, found_over, activated_over}
use Rattle.port_rules.specs.Port.{held}
use Rattle.port_rules.specs.Gathered.{all_sound}
use Rattle.port_rules.specs.Calls as port
use Rattle.card_rules.specs.declared.Card.{Card}
use Rattle.card_rules.specs.Adapter.{Adapter}
use Rattle.card_rules.specs.View.{view}
use Rattle.card_rules.specs.Calls.{Reply, Call, Does, Area, replying}
use Rattle.driver_rules.specs.declared.Driver.{Driver}
use Rattle.driver_rules.specs.Registers.{unfit}
use Rattle.driver_rules.specs.Packet.{outside, lacks_room, packet_words}
use Rattle.driver_rules.specs.Talk.{Talk, done, run, write_words}
use Rattle.driver_rules.proofs.Runs.{writes_law}
use Rattle.driver_rules.specs.Open.{open_talk}
use Rattle.driver_rules.specs.Open as opens
use Rattle.driver_rules.specs.Send.{Sending, refuses, ticketed, send_talk}
use Rattle.driver_rules.specs.Send as sends
use Rattle.driver_rules.specs.Paper.{open_paper, send_paper}
use Rattle.driver_rules.specs.Calls.{sound_state, open_call, send_call}
use Rattle.fits.specs.Agree.{is_refusal, is_refused}
use Rattle.fits.specs.Order.{status_read, free_read}
use Rattle.over_calls.specs.Refused.{Same, Card-keeps, DriverKeeps, is_no, PortKeeps, LentKeeps, ARefusedCallChangesNothing}
use Rattle.over_calls.proofs.Kept as service

-- ---- the card

-- where a call is refused its number is none, or the step's own answer would be a refusal
number_of : (number : ℕ) (reply w : Reply) → is_refusal w ≡ false → reply ≡ replying number w → is_refusal reply ≡ true → (P : ℕ → Type 0) → ((n : ℕ) → P (suc n)) → P number
unfolding replying
number_of zero reply w plain e y P k = never (sym plain ∙ (sym (ap is_refusal e) ∙ y))
number_of (suc n) reply w plain e y P k = k n

module _ {reply w : Reply} {c r : Card} {ram dir ram' dir' : List ℕ} {a : Adapter} (number : ℕ) (plain : is_refusal w ≡ false) (k : Call number reply w c r ram dir ram' dir' a) (y : is_refusal reply ≡ true) where
  same : Same c r ram dir ram' dir'
  unfolding Does
  same = number_of number reply w plain k.answer y (λ n. Does n c r ram dir ram' dir' a → Same c r ram dir ram' dir') (λ n d. record { card = d.0; memory = d.1; directory = d.2 }) k.does

  area : (told out out' : List ℕ) → Area number told out out' → out' ≡ out
  unfolding Area
  area told out out' = number_of number reply w plain k.answer y (λ n. Area n told out out' → out' ≡ out) (λ n d. d)

card-keeps : (c : Card) (ram dir : List ℕ) → Card-keeps c ram dir
card-keeps c ram dir =
    record {
      read_word = λ o r k y. (same _ refl k y).card;
      read_byte = λ o r k y. (same _ refl k y).card;
      write_word = λ o v r ram' dir' k y. same _ refl k y;
      write_byte = λ o v r ram' dir' k y. same _ refl k y;
      wire_start_call = λ first r ram' dir' k y. same _ refl k y;
      wire_byte_call = λ b r ram' dir' k y. same _ refl k y;
      wire_end_call = λ check alignment r ram' dir' k y. same _ refl k y;
      success = λ out out' r ram' dir' k l y. (area _ refl k y _ out out' l, same _ refl k y);
      collisions = λ r ram' dir' k y. same _ refl k y;
      seat = λ i r k y. (same _ refl k y).card;
    }

-- ---- the driver

-- the paper's word for a refusal, and the code's
open_refusing : (x : Result ⊤ Refusal) → is_refused (open_paper x) ≡ true → opens.refusing x ≡ true
open_refusing (Ok _) e = never e
open_refusing (Err why) e = refl

send-refusing : (x : Result ℕ Refusal) → is_refused (send_paper x) ≡ true → sends.refusing x ≡ true
send-refusing (Ok n) e = never e
send-refusing (Err why) e = refl

open_driver : (sound : Bool) (d : Driver) (w₀ w₁ w₂ : ℕ) (a : Adapter) → is_refused (open_paper (run (open_call sound d w₀ w₁ w₂) a).answer.answer) ≡ true → (run (open_call sound d w₀ w₁ w₂) a).answer.driver ≡ d
unfolding open_call open_talk run
open_driver true d w₀ w₁ w₂ a e = never e
open_driver false d w₀ w₁ w₂ a e = refl

-- a send leaves the driver where it is refused
abbrev Leaves : Driver → Sending → Type 0
Leaves d x = is_refused (send_paper x.answer) ≡ true → x.driver ≡ d

refused_or : (b : Bool) (why : Refusal) (d : Driver) (rest : Talk Sending) (a : Adapter) → Leaves d (run rest a).answer → Leaves d (run (cond b (done (refuses d why)) rest) a).answer
unfolding run
refused_or true why d rest a h e = refl
refused_or false why d rest a h e = h e

sound_or : (sound : Bool) (why : Refusal) (d : Driver) (rest : Talk Sending) (a : Adapter) → Leaves d (run rest a).answer → Leaves d (run (cond sound rest (done (refuses d why))) a).answer
unfolding run
sound_or true why d rest a h e = h e
sound_or false why d rest a h e = refl

taken : (packet : List ℕ) (d : Driver) (a : Adapter) → Leaves d (run (write_words (packet_words packet) (done (ticketed d))) a).answer
unfolding run
taken packet d a e = never (sym (ap (λ R. is_refused (send_paper R.answer.answer)) (writes_law (packet_words packet) (done (ticketed d)) a)) ∙ e)

send-driver : (sound : Bool) (d : Driver) (packet : List ℕ) (a : Adapter) → Leaves d (run (send_call sound d packet) a).answer
unfolding send_call send_talk run
send-driver sound d packet a =
    sound_or sound _ d _ a
    (refused_or (not d.opened) _ d _ a
    (refused_or (outside (length packet)) _ d _ a
    (refused_or (ltb 15 d.unreported) _ d _ a
    (refused_or (unfit (status_read a)) _ d _ _
    (refused_or (lacks_room (free_read a) (length packet)) _ d _ _ (taken packet d _))))))

driver-keeps : (c : Card) (ram dir : List ℕ) (d : Driver) → DriverKeeps c ram dir d
driver-keeps c ram dir d =
    record {
      opens = λ w₀ w₁ w₂ r ram' dir' k e.
          let s = k.kept (open_refusing r.answer e) in
          (k.driver ∙ open_driver (sound_state c ram dir d) d w₀ w₁ w₂ (view c ram dir) (sym (ap (λ x. is_refused (open_paper x)) k.answer) ∙ e), record { card = s.0; memory = s.1.0; directory = s.1.1 });
      sends = λ packet r ram' dir' k e.
          let s = k.kept (send-refusing r.answer e) in
          (k.driver ∙ send-driver (sound_state c ram dir d) d packet (view c ram dir) (sym (ap (λ x. is_refused (send_paper x)) k.answer) ∙ e), record { card = s.0; memory = s.1.0; directory = s.1.1 });
    }

-- ---- the ID port

judged-keeps : (sound ok : Bool) (b : Bus) (o : port.Outcome) → is_no o.reply ≡ false → is_no (cond sound (cond ok o (port.refusing 12 b)) (port.refusing 1 b)).reply ≡ true → (cond sound (cond ok o (port.refusing 12 b)) (port.refusing 1 b)).bus ≡ b
judged-keeps true true b o plain e = never (sym plain ∙ e)
judged-keeps true false b o plain e = refl
judged-keeps false ok b o plain e = refl

-- r is what the judgement gives
port-kept : (b : Bus) (ok : Bool) (o r : port.Outcome) → is_no o.reply ≡ false → r ≡ port.judged b ok o → is_no r.reply ≡ true → r.bus ≡ b
unfolding port.judged
port-kept b ok o r plain k e = ap (λ x. x.bus) k ∙ judged-keeps (all_sound (held b)) ok b o plain (sym (ap (λ x. is_no x.reply) k) ∙ e)

port-keeps : (b : Bus) (x : ℕ) → PortKeeps b x
port-keeps b x =
    record {
      port_write_call = λ byte r k e. port-kept b _ _ (port.wrote_of r) refl k e;
      port_read_call = λ r k e. port-kept b _ _ (port.read_of r) refl k e;
      find_cards = λ r k e. port-kept b _ _ (port.found_of r) refl k e;
      activate_card = λ tag base r k e. port-kept b _ _ (port.activated_of r) refl k e;
    }

-- the slice is the bus's cards
lent-kept : (before after : List IdState) (ok : Bool) (o r : port.Outcome) → r.bus ≡ lent after → is_no o.reply ≡ false → r ≡ port.judged (lent before) ok o → is_no r.reply ≡ true → after ≡ before
lent-kept before after ok o r is plain k e = ap (λ (b : Bus). b.cards) (sym is ∙ port-kept (lent before) ok o r plain k e)

lent-keeps : (before : List IdState) (x : ℕ) → LentKeeps before x
lent-keeps before x =
    record {
      write = λ byte r after k e. lent-kept before after _ _ (wrote_over r after) refl refl k e;
      read = λ r after k e. lent-kept before after _ _ (read_over r after) refl refl k e;
      find = λ r after k e. lent-kept before after _ _ (found_over r after) refl refl k e;
      activate = λ tag base r after k e. lent-kept before after _ _ (activated_over r after) refl refl k e;
    }

pub a_refused_call_changes_nothing_lem : ARefusedCallChangesNothing
a_refused_call_changes_nothing_lem =
    record {
      card = card-keeps;
      driver = driver-keeps;
      service = service.changes_nothing;
      short = service.leaves_driver_and_areas;
      below_three = service.below_three;
      id_port = port-keeps;
      lent_port = lent-keeps;
    }
