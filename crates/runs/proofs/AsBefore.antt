-- A least threshold moves no RX Early: by the accesses, then the driver's calls, then events and histories. Assumes nothing.
use mathlib.Core.Path.{◌≡◌, refl, ap, subst, subst⁻¹}
use mathlib.Core.Bool.{Bool, true, false}
use mathlib.Core.List.{List, [], ◌∷◌}
use Prim.Native.Nat.{ℕ}
use borrow.Author.Tests.{eqb-true, le-ltb}
use Rattle.port_rules.specs.declared.IdState.{IdState}
use Rattle.port_rules.specs.Card.{id_write, id_after_read}
use Rattle.port_rules.specs.Sound.{id_sound}
use Rattle.port_rules.proofs.Keep.{every_step_keeps_soundness_lem}
use Rattle.transmit_rules.specs.Tx.{ready}
use Rattle.receive_rules.specs.Wire as wires
use Rattle.receive_rules.proofs.Facts.{sound-told}
use Rattle.card_rules.specs.Adapter.{Adapter}
use Rattle.card_rules.specs.Room.{rx_room}
use Rattle.card_rules.specs.Sound.{sound}
use Rattle.card_rules.specs.Line.{interrupt_line}
use Rattle.card_rules.specs.Access.{Access, ReadWord, ReadByte, WriteWord, WriteByte}
use Rattle.card_rules.specs.Calls.{on_wire, off_wire}
use Rattle.card_rules.specs.Event as card
use Rattle.card_rules.proofs.Sides.{rx_of_lem, identified}
use Rattle.card_rules.proofs.StepKeeps as keeps
use Rattle.driver_rules.specs.declared.Driver.{Driver}
use Rattle.driver_rules.specs.Talk.{Talk, done, ask, Ran, run}
use Rattle.driver_rules.specs.Open.{Opening, open_talk}
use Rattle.driver_rules.specs.Send.{Sending}
use Rattle.driver_rules.specs.Items.{Serving}
use Rattle.driver_rules.specs.Calls.{open_call, send_call, service_call}
use Rattle.runs.specs.Run.{Bench, sound_bench, with_adapter, Areas, full, Event, Start, Byte, End, Sent, Collided, Open, Send, Service, Earlier, Host, IdWrite, IdRead, Later, opens, sends, serves, serving, wire, taken, next, said, permitted, before, since}
use Rattle.runs.specs.AsGiven.{given_access, given_run, given_next, given_said, given_before, given_since}
use Rattle.runs.specs.Early.{raised, raised_bench, reads_early, Alike, RxEarlyComesAsBefore}
use Rattle.runs.proofs.Kept.{access-sound, adapter_of, before-sound}
use Rattle.runs.proofs.Talks.{Each, ends, asks, Accesses, each-send, each-service}
use Rattle.runs.proofs.Raised.{Lifts, lift_test, settles, start_lifts, seat_lifts, access_lifts, access-same, read_back}

-- ---- the driver's calls read no threshold

abbrev Blind : Access → Type 0
Blind x = (a : Adapter) → reads_early x a ≡ false

blind_accesses : Accesses Blind
unfolding reads_early
blind_accesses =
    record {
      status = λ a. refl;
      free = λ a. refl;
      oldest = λ a. refl;
      word = λ a. refl;
      told = λ a. refl;
      write = λ v a. refl;
      pop = λ a. refl;
      discard = λ a. refl;
      enable = λ a. refl;
      acknowledge = λ a. refl;
    }

blind_open : (d : Driver) (w₀ w₁ w₂ : ℕ) → Each Blind true (λ (x : Opening). x.driver) (open_call true d w₀ w₁ w₂)
unfolding reads_early open_call open_talk
blind_open d w₀ w₁ w₂ =
    asks (λ a. refl) (λ _. asks (λ a. refl) (λ _. asks (λ a. refl) (λ _. asks (λ a. refl) (λ _. asks (λ a. refl) (λ _. asks (λ a. refl) (λ _. asks (λ a. refl) (λ _.
    asks (λ a. refl) (λ _. asks (λ a. refl) (λ _. asks (λ a. refl) (λ _. asks (λ a. refl) (λ _. asks (λ a. refl) (λ _. asks (λ a. refl) (λ _. ends refl)))))))))))))

-- the same answer by the same accesses, and the cards differ in the threshold alone
record Matches {A : Type 0} (R S : Ran A) : Type 0 where
  answer : R.answer ≡ S.answer
  made : R.made ≡ S.made
  adapter : R.adapter ≡ raised S.adapter

run_matches : {A : Type 0} (was : Bool) (driver_of : A → Driver) (t : Talk A) → Each Blind was driver_of t → (a : Adapter) → sound (raised a) ≡ true
    → Matches (run t (raised a)) (given_run t a)
unfolding run given_run
run_matches was driver_of (done x) (ends k) a s = record { answer = refl; made = refl; adapter = refl }
run_matches was driver_of (ask x t) (asks f k) a s =
    let v = access-same a x (f a) in
    let l = access_lifts a x s in
    let m = run_matches was driver_of (t (given_access x a).value) (k _) (given_access x a).adapter (subst (λ (b : Adapter). sound b ≡ true) l.is (access-sound x (raised a) s)) in
    rw (v, l.is) (record { answer = m.answer; made = ap (λ ms. x ∷ ms) m.made; adapter = m.adapter })

-- ---- events

-- a step that is taken or refused
taken_lifts : (ok : Bool) (x y : Adapter) (b : Bench) → (ok ≡ true → Lifts x y) → taken ok x (raised_bench b) ≡ raised_bench (taken ok y b)
taken_lifts ok x y b h = ap (λ (a : Adapter). with_adapter a b) (lift_test ok h (λ _. record { is = refl })).is

module _ (b : Bench) (s : sound_bench (raised_bench b) ≡ true) where
  abbrev a : Adapter
  a = b.adapter

  h : sound (raised a) ≡ true
  h = adapter_of (raised_bench b) s

  opens_match : (w₀ w₁ w₂ : ℕ) → Matches (opens w₀ w₁ w₂ (raised_bench b)) (given_run (open_call true b.driver w₀ w₁ w₂) a)
  unfolding opens
  opens_match w₀ w₁ w₂ = run_matches true (λ (x : Opening). x.driver) (open_call true b.driver w₀ w₁ w₂) (blind_open b.driver w₀ w₁ w₂) a h

  sends_match : (packet : List ℕ) → Matches (sends packet (raised_bench b)) (given_run (send_call true b.driver packet) a)
  unfolding sends
  sends_match packet = run_matches b.driver.opened (λ (x : Sending). x.driver) (send_call true b.driver packet) (each-send Blind blind_accesses b.driver packet) a h

  serves_match : (n : ℕ) (r : Areas) → Matches (serves n r (raised_bench b)) (given_run (service_call true (full r) b.driver n) a)
  unfolding serves
  serves_match n r =
      run_matches b.driver.opened (λ (x : Serving). x.driver) (service_call true (full r) b.driver n) (each-service Blind blind_accesses b.driver n (full r)) a h

  next_lifts : (e : Event) → next e (raised_bench b) ≡ raised_bench (given_next e b)
  unfolding next given_next card.wire_start card.wire_byte card.wire_end card.success card.collisions wires.wire_byte wires.wire_end
  next_lifts (Start first eight) =
      taken_lifts (off_wire (wire b)) _ _ b (λ idle. settles (start_lifts a _ _ first) (keeps.start-keeps (raised a) h _ first eight (eqb-true (wire b) 0 idle)))
  next_lifts (Byte v) = taken_lifts (on_wire (wire b)) _ _ b (λ _. settles (record { is = refl }) (keeps.wire-byte-keeps (raised a) h v))
  next_lifts (End c l) = taken_lifts (on_wire (wire b)) _ _ b (λ _. settles (record { is = refl }) (keeps.end-keeps (raised a) h c l))
  next_lifts Sent = taken_lifts (ready a.tx) _ _ b (λ _. settles (record { is = refl }) (keeps.success-keeps (raised a) h))
  next_lifts Collided = taken_lifts (ready a.tx) _ _ b (λ _. settles (record { is = refl }) (keeps.collisions-keeps (raised a) h))
  next_lifts (Open w₀ w₁ w₂) = let m = opens_match w₀ w₁ w₂ in λ i. record { adapter = m.adapter i; driver = (m.answer i).driver }
  next_lifts (Send packet) = let m = sends_match packet in λ i. record { adapter = m.adapter i; driver = (m.answer i).driver }
  next_lifts (Service n r) = let m = serves_match n r in λ i. record { adapter = m.adapter i; driver = (m.answer i).driver }

  said_same : (e : Event) → said e (raised_bench b) ≡ given_said e b
  unfolding said given_said
  said_same (Start first eight) = refl
  said_same (Byte v) = refl
  said_same (End c l) = refl
  said_same Sent = refl
  said_same Collided = refl
  said_same (Open w₀ w₁ w₂) = rw (opens_match w₀ w₁ w₂).answer
  said_same (Send packet) = rw (sends_match packet).answer
  said_same (Service n r) = let m = serves_match n r in λ i. serving r (record { answer = m.answer i; made = m.made i; adapter = m.adapter i }) ∷ []

  -- ---- histories

  seat_moves : (i : IdState) → id_sound i ≡ true → with_adapter (card.seat i (raised a)) b ≡ raised_bench (with_adapter (card.seat i a) b)
  unfolding card.seat
  seat_moves i g = ap (λ (x : Adapter). with_adapter x b) (settles (seat_lifts a i) (keeps.seat-keeps (raised a) h i g)).is

  permitted-same : (x : Access) → permitted x (raised a) ≡ permitted x a
  unfolding permitted
  permitted-same (ReadWord o) = refl
  permitted-same (ReadByte o) = refl
  permitted-same (WriteWord o v) = refl
  permitted-same (WriteByte o v) = refl

  before_lifts : (e : Earlier) → before e (raised_bench b) ≡ raised_bench (given_before e b)
  unfolding before given_before
  before_lifts (Host x) = rw (permitted-same x) (taken_lifts (permitted x a) _ _ b (λ _. access_lifts a x h))
  before_lifts (IdWrite p small byte) = seat_moves (id_write a.id p byte) (every_step_keeps_soundness_lem.writes a.id p byte small (identified (raised a) h))
  before_lifts (IdRead p small bus) = seat_moves (id_after_read a.id p bus) (every_step_keeps_soundness_lem.reads a.id p bus (identified (raised a) h))
  before_lifts (Later e) = next_lifts e

  -- a moment
  alike : Alike (raised_bench b) b
  unfolding interrupt_line
  alike =
      record {
        register = refl;
        status = refl;
        line = refl;
        answers = said_same;
        permits = permitted-same;
        values = λ z n. access-same a z n;
        reads_back = read_back a;
      }

since_alike : (hs : List Earlier) (b : Bench) → sound_bench (raised_bench b) ≡ true → Alike (since hs (raised_bench b)) (given_since hs b)
unfolding since given_since
since_alike [] b s = alike b s
since_alike (e ∷ hs) b s =
    let l = before_lifts b s e in
    rw l (since_alike hs (given_before e b) (subst (λ (x : Bench). sound_bench x ≡ true) l (before-sound e (raised_bench b) s)))

-- a sound card has its threshold raised already
raised_already : (b : Bench) → sound_bench b ≡ true → raised_bench b ≡ b
raised_already b s =
    let t : ℕ = b.adapter.rx.receiver.threshold in
    let k = (sound-told (rx_room b.adapter) b.adapter.rx (rx_of_lem b.adapter (adapter_of b s))).0.threshold.0 in
    rw (le-ltb t 8 k)

pub early_as_before : RxEarlyComesAsBefore
early_as_before =
    record {
      of_one_card = λ b s hs. subst (λ (x : Bench). Alike (since hs x) (given_since hs b)) (raised_already b s) (since_alike hs b (subst⁻¹ (λ (x : Bench). sound_bench x ≡ true) (raised_already b s) s));
      of_two_cards = λ b s hs. since_alike hs b s;
    }
