-- Each event carries the good frames on, and so does every run. Assumes nothing.
use Rattle.std.specs.Prelude.{Result, Ok, Err}
use mathlib.Core.Path.{◌≡◌, refl, sym, ap, subst, subst⁻¹, ◌∙◌}
use mathlib.Core.Bool.{Bool, true, false, cond, not, ◌&&◌}
use mathlib.Core.List.{List, [], ◌∷◌, ◌++◌, append_assoc, append-nil}
use Prim.Native.Nat.{ℕ}
use native.Mathlib.Omega.{arith}
use borrow.Author.Tests.{eqb-true, eq-eqb}
use lib.ListN.{length}
use lib.Dec.{eqb, ltb}
use Rattle.refusal.specs.declared.Refusal.{Refusal}
use Rattle.refusal.specs.declared.Refusal.TheVariants.{NeverOpened, AreaShort}
use Rattle.refusal.specs.Number.{number_of}
use Rattle.bits.proofs.Tests.{both, never, of_cond}
use Rattle.store.specs.Store.{at_newest}
use Rattle.receive_rules.specs.Update.{with_frames, with_wire}
use Rattle.receive_rules.specs.Wire as wires
use Rattle.receive_rules.specs.Wire.{begins, takes, fits, ends}
use Rattle.receive_rules.specs.Sound.{in_order}
use Rattle.receive_rules.proofs.Facts.{sound-told}
use Rattle.transmit_rules.specs.Tx as tx
use Rattle.transmit_rules.specs.Tx.{ready}
use Rattle.card_rules.specs.Adapter.{Adapter}
use Rattle.card_rules.specs.Update.{with_rx, with_tx}
use Rattle.card_rules.specs.Room.{rx_room}
use Rattle.card_rules.specs.Settle.{settle}
use Rattle.card_rules.proofs.Sides.{rx_of_lem}
use Rattle.card_rules.specs.Event as card
use Rattle.card_rules.specs.Calls.{on_wire, off_wire}
use Rattle.driver_rules.specs.Talk.{Talk, done}
use Rattle.driver_rules.specs.declared.Item.{Item}
use Rattle.driver_rules.specs.declared.Item.TheVariants as answer
use Rattle.driver_rules.specs.Areas.{in_look, in_frame}
use Rattle.driver_rules.specs.Items.{Serving, plain}
use Rattle.driver_rules.specs.Paper.{Paper, service_paper}
use Rattle.driver_rules.proofs.HandUp.{handed_as}
use Rattle.driver_rules.specs.Calls.{open_call, send_call, service_call}
use Rattle.runs.specs.Run.{Bench, sound_bench, Areas, full, Event, Start, Byte, End, Sent, Collided, Open, Send, Service, Said, refused, told, answered, served, opens, sends, serves, refusing, wire, next, said, after, sayings}
use Rattle.runs.proofs.Kept.{adapter_of, next-sound}
use Rattle.frames_carried.specs.Bytes.{octets, holdable, octets_of, wire_octets}
use Rattle.frames_carried.specs.Brings.{stored, good, newest, hears, no_code, arrives, arrived}
use Rattle.frames_carried.specs.Reads.{offered, reads, host_reads}
use Rattle.frames_carried.specs.Carried.{Unread, NothingElseIsRead}
use Rattle.frames_carried.proofs.Still.{Still, still_open, still_send, is_frame, quiet-refused}
use Rattle.frames_carried.proofs.Good.{offered-some, good_start, good-byte, good-end, Intact, intact_outset, intact_start, intact_byte, holds-start, holds-byte, holds-end}
use Rattle.frames_carried.proofs.Service.{Sane, Tells, as_frame, as_other, Carries, Goes, quiet, look_carries}

-- what the host reads after a service
abbrev given : Serving → ℕ → Areas → List (List ℕ)
given x used areas = reads (service_paper x.answer used) x.bytes (record { look = in_look x.bytes areas.look; frame = in_frame x.bytes areas.frame })

not-read : (y : Result Item Refusal) (used : ℕ) (bytes : List ℕ) (s : Areas) → is_frame y ≡ false → reads (service_paper y used) bytes s ≡ offered bytes
unfolding is_frame reads
not-read (Ok (answer.Reported t k)) used bytes s e = refl
not-read (Ok (answer.Status k)) used bytes s e = refl
not-read (Ok (answer.Frame n)) used bytes s e = never (sym e)
not-read (Ok answer.Idle) used bytes s e = refl
not-read (Err why) used bytes s e = of_cond (λ (p : Paper). reads p bytes s ≡ offered bytes) (eqb (number_of why) 6) refl refl

-- it is what is host_reads up
given_all : (x : Serving) (used : ℕ) (areas : Areas) → Tells x → given x used areas ≡ offered x.bytes
unfolding reads
given_all x used areas (as_frame e long) =
    let s : Areas = record { look = in_look x.bytes areas.look; frame = in_frame x.bytes areas.frame } in
    ap (λ (y : Result Item Refusal). reads (service_paper y used) x.bytes s) e ∙ ap (λ (l : List ℕ). l ∷ []) (handed_as x.bytes areas.look areas.frame) ∙ sym (offered-some x.bytes long)
given_all x used areas (as_other e) = not-read x.answer used x.bytes (record { look = in_look x.bytes areas.look; frame = in_frame x.bytes areas.frame }) e

-- the adapter a with what was heard so far
pub record Steady (heard : List ℕ) (a : Adapter) : Type 0 where
  pub sane : Sane a
  pub intact : a.rx.receiver.wire ≡ 2 → Intact heard a.rx.frames

-- from a to b, with what is heard then, the frames that arrive and those that are host_reads up
pub record Moves (heard : List ℕ) (come up : List (List ℕ)) (a b : Adapter) : Type 0 where
  pub carried : good a.rx.frames ++ come ≡ up ++ good b.rx.frames
  pub read : b.rx.receiver.read ≡ 0
  pub failed : b.rx.receiver.failed ≡ false
  pub held : holdable b.rx.frames ≡ true
  pub intact : b.rx.receiver.wire ≡ 2 → Intact heard b.rx.frames

pub still_outcome : (a : Adapter) (t : tx.Tx) (ok : Bool) → Still a (cond ok (settle (with_tx t a)) a)
unfolding settle
still_outcome a t true = record { frames = refl; read = refl; failed = refl; wire = refl; split = refl }
still_outcome a t false = record { frames = refl; read = refl; failed = refl; wire = refl; split = refl }

pub serve_carries : (budget : ℕ) (areas : Areas) (b : Bench) → Sane b.adapter → Carries b.adapter (serves budget areas b).answer (serves budget areas b).adapter
unfolding serves service_call
serve_carries budget areas b s =
    of_cond (λ (t : Talk Serving). Goes b.adapter t b.adapter) (not b.driver.opened) (quiet (done (plain (Err NeverOpened) b.driver)) (quiet-refused NeverOpened b.driver) b.adapter s)
    (of_cond (λ (t : Talk Serving). Goes b.adapter t b.adapter) (not (full areas)) (quiet (done (plain (Err AreaShort) b.driver)) (quiet-refused AreaShort b.driver) b.adapter s)
    (look_carries budget b.driver b.adapter s))

module _ (heard : List ℕ) (a : Adapter) (s : Steady heard a) where
  -- nothing of the receive side moves
  stays : (b : Adapter) → Still a b → Moves heard [] [] a b
  stays b t =
      record {
        carried = append-nil (good a.rx.frames) ∙ sym (ap good t.frames);
        read = t.read ∙ s.sane.read;
        failed = t.failed ∙ s.sane.failed;
        held = ap holdable t.frames ∙ s.sane.held;
        intact = λ e. subst⁻¹ (Intact heard) t.frames (s.intact (sym t.wire ∙ e));
      }

  same : Moves heard [] [] a a
  same = stays a (record { frames = refl; read = refl; failed = refl; wire = refl; split = refl })

  -- where the wire stores a frame, the newest is coming
  busy : eqb a.rx.receiver.wire 2 ≡ true → in_order true a.rx.frames ≡ true
  busy y = subst (λ (b : Bool). in_order b a.rx.frames ≡ true) y (sound-told (rx_room a) a.rx (rx_of_lem a s.sane.sound)).0.order

  -- ---- a start

  begun : (first : List ℕ) → octets first ≡ true → (ok : Bool) → Moves first [] [] a (settle (with_rx (begins ok first a.rx) a))
  unfolding begins settle
  begun first o true =
      record {
        carried = append-nil (good a.rx.frames) ∙ sym (good_start a.rx.frames first);
        read = s.sane.read;
        failed = s.sane.failed;
        held = holds-start a.rx.frames first o s.sane.held;
        intact = λ _. intact_start a.rx.frames first;
      }
  begun first o false =
      record {
        carried = append-nil (good a.rx.frames);
        read = s.sane.read;
        failed = s.sane.failed;
        held = s.sane.held;
        intact = λ e. absurd (omega arith);
      }

  start_moves : (first : List ℕ) → octets first ≡ true → (ok : Bool) → Moves (cond ok first heard) [] (host_reads (refusing ok)) a (cond ok (card.wire_start first a) a)
  unfolding host_reads card.wire_start wires.wire_start
  start_moves first o true = begun first o _
  start_moves first o false = same

  -- ---- a byte

  bytes-taken : (v : ℕ) (space : Bool) → ltb v 256 ≡ true → (ok : Bool) → eqb a.rx.receiver.wire 2 ≡ ok
      → Moves (heard ++ (v ∷ [])) [] [] a (settle (with_rx (with_frames (cond ok (at_newest (takes v space) a.rx.frames) a.rx.frames) a.rx) a))
  unfolding settle
  bytes-taken v space o true y =
      record {
        carried = append-nil (good a.rx.frames) ∙ sym (good-byte v space a.rx.frames (busy y));
        read = s.sane.read;
        failed = s.sane.failed;
        held = holds-byte v space a.rx.frames o s.sane.held;
        intact = λ e. intact_byte heard v space a.rx.frames (busy y) (s.intact e);
      }
  bytes-taken v space o false n =
      record {
        carried = append-nil (good a.rx.frames);
        read = s.sane.read;
        failed = s.sane.failed;
        held = s.sane.held;
        intact = λ e. never (sym n ∙ eq-eqb a.rx.receiver.wire 2 e);
      }

  -- off the wire no frame is stored
  off : on_wire a.rx.receiver.wire ≡ false → eqb a.rx.receiver.wire 2 ≡ false
  off n = idle (eqb a.rx.receiver.wire 0) (λ y. ap (λ (m : ℕ). eqb m 2) (eqb-true a.rx.receiver.wire 0 y)) n
    where
      idle : (t : Bool) → (t ≡ true → eqb a.rx.receiver.wire 2 ≡ false) → not t ≡ false → eqb a.rx.receiver.wire 2 ≡ false
      idle true h e = h refl
      idle false h e = never (sym e)

  byte_moves : (v : ℕ) → ltb v 256 ≡ true → (ok : Bool) → on_wire a.rx.receiver.wire ≡ ok → Moves (heard ++ (v ∷ [])) [] (host_reads (refusing ok)) a (cond ok (card.wire_byte v a) a)
  unfolding host_reads card.wire_byte wires.wire_byte
  byte_moves v o true y = bytes-taken v (fits (rx_room a) v a.rx.frames) o (eqb a.rx.receiver.wire 2) refl
  byte_moves v o false n =
      record {
        carried = append-nil (good a.rx.frames);
        read = s.sane.read;
        failed = s.sane.failed;
        held = s.sane.held;
        intact = λ e. never (sym (off n) ∙ eq-eqb a.rx.receiver.wire 2 e);
      }

  -- ---- an end

  module _ (check alignment : Bool) where
    abbrev came : Bool → List (List ℕ)
    came ok = cond (ok && no_code check alignment a.rx.frames) (heard ∷ []) []

    ended : (ok : Bool) → eqb a.rx.receiver.wire 2 ≡ ok
        → Moves heard (came ok) [] a
        (settle (with_rx (record { receiver = with_wire 0 a.rx.receiver; frames = cond ok (at_newest (ends check alignment) a.rx.frames) a.rx.frames }) a))
    unfolding settle
    ended true y =
        record {
          carried = sym (good-end heard check alignment a.rx.frames (busy y) (s.intact (eqb-true a.rx.receiver.wire 2 y)));
          read = s.sane.read;
          failed = s.sane.failed;
          held = holds-end check alignment a.rx.frames s.sane.held;
          intact = λ e. absurd (omega arith);
        }
    ended false n =
        record {
          carried = append-nil (good a.rx.frames);
          read = s.sane.read;
          failed = s.sane.failed;
          held = s.sane.held;
          intact = λ e. absurd (omega arith);
        }

    end_moves : (ok : Bool) → on_wire a.rx.receiver.wire ≡ ok → Moves heard (came (eqb a.rx.receiver.wire 2)) (host_reads (refusing ok)) a (cond ok (card.wire_end check alignment a) a)
    unfolding host_reads card.wire_end wires.wire_end
    end_moves true y = ended (eqb a.rx.receiver.wire 2) refl
    end_moves false n = subst⁻¹ (λ (t : Bool). Moves heard (came t) [] a a) (off n) same

  -- ---- outcomes

  outcome_moves : (t : tx.Tx) (ok : Bool) → Moves heard [] [] a (cond ok (settle (with_tx t a)) a)
  outcome_moves t ok = stays (cond ok (settle (with_tx t a)) a) (still_outcome a t ok)

  -- ---- a service

  serve_moves : (x : Serving) (used : ℕ) (areas : Areas) (b : Adapter) → Carries a x b → Moves heard [] (given x used areas ++ []) a b
  serve_moves x used areas b c =
      record {
        carried = append-nil (good a.rx.frames) ∙ c.carried
            ∙ ap (λ (l : List (List ℕ)). l ++ good b.rx.frames) (sym (append-nil (given x used areas) ∙ given_all x used areas c.tells));
        read = c.read;
        failed = c.failed;
        held = c.held;
        intact = λ e. c.intact heard (s.intact (sym c.wire ∙ e));
      }

pub moves : (e : Event) (heard : List ℕ) (b : Bench) → Steady heard b.adapter → octets_of e ≡ true
    → Moves (hears e heard b) (arrives e heard b) (host_reads (said e b)) b.adapter (next e b).adapter
unfolding next said hears arrives host_reads octets_of opens open_call sends send_call card.success card.collisions
moves (Start first eight) heard b s o = start_moves heard b.adapter s first o (off_wire (wire b))
moves (Byte v) heard b s o = byte_moves heard b.adapter s v o (on_wire (wire b)) refl
moves (End check alignment) heard b s o = end_moves heard b.adapter s check alignment (on_wire (wire b)) refl
moves Sent heard b s o =
    subst⁻¹ (λ (l : List (List ℕ)). Moves heard [] l b.adapter (next Sent b).adapter) (of_cond (λ (x : Said). host_reads (x ∷ []) ≡ []) (ready b.adapter.tx) refl refl)
    (outcome_moves heard b.adapter s (tx.success b.adapter.tx) (ready b.adapter.tx))
moves Collided heard b s o =
    subst⁻¹ (λ (l : List (List ℕ)). Moves heard [] l b.adapter (next Collided b).adapter) (of_cond (λ (x : List Said). host_reads x ≡ []) (ready b.adapter.tx) refl refl)
    (outcome_moves heard b.adapter s (tx.collisions b.adapter.tx) (ready b.adapter.tx))
moves (Open w₀ w₁ w₂) heard b s o = stays heard b.adapter s (next (Open w₀ w₁ w₂) b).adapter (still_open b.driver w₀ w₁ w₂ b.adapter)
moves (Send packet) heard b s o = stays heard b.adapter s (next (Send packet) b).adapter (still_send b.driver packet b.adapter)
moves (Service budget areas) heard b s o =
    serve_moves heard b.adapter s (serves budget areas b).answer (length (serves budget areas b).made) areas (serves budget areas b).adapter
    (serve_carries budget areas b s.sane)

-- ---- runs

reads-append : (xs ys : List Said) → host_reads (xs ++ ys) ≡ host_reads xs ++ host_reads ys
unfolding host_reads
reads-append [] ys = refl
reads-append (refused n ∷ xs) ys = reads-append xs ys
reads-append (told bytes ∷ xs) ys = reads-append xs ys
reads-append (answered p ∷ xs) ys = reads-append xs ys
reads-append (served p bytes s ∷ xs) ys = ap (λ (l : List (List ℕ)). reads p bytes s ++ l) (reads-append xs ys) ∙ sym (append_assoc (reads p bytes s) (host_reads xs) (host_reads ys))

pub sane_of : (b : Bench) → sound_bench b ≡ true → Unread b → Sane b.adapter
sane_of b s u = record { sound = adapter_of b s; read = u.none_read; failed = u.no_failure; held = u.held }

record Runs (es : List Event) (heard : List ℕ) (b : Bench) : Type 0 where
  carried : good (stored b) ++ arrived es heard b ≡ host_reads (sayings es b) ++ good (stored (after es b))
  again : Unread (after es b)

carry : (es : List Event) (heard : List ℕ) (b : Bench) → sound_bench b ≡ true → Unread b → (wire b ≡ 2 → Intact heard (stored b)) → wire_octets es ≡ true → Runs es heard b
unfolding arrived host_reads sayings after wire_octets
carry [] heard b s u i o = record { carried = append-nil (good (stored b)); again = u }
carry (e ∷ es) heard b s u i o =
    let p = both (octets_of e) (wire_octets es) o in
    let m = moves e heard b (record { sane = sane_of b s u; intact = i }) p.0 in
    let c : Bench = next e b in
    let r = carry es (hears e heard b) c (next-sound e b s) (record { none_read = m.read; no_failure = m.failed; held = m.held }) m.intact p.1 in
    let later : List (List ℕ) = arrived es (hears e heard b) c in
    let up : List (List ℕ) = host_reads (said e b) in
    record {
      carried =
          sym (append_assoc (good (stored b)) (arrives e heard b) later)
          ∙ ap (λ (l : List (List ℕ)). l ++ later) m.carried
          ∙ append_assoc up (good (stored c)) later
          ∙ ap (λ (l : List (List ℕ)). up ++ l) r.carried
          ∙ sym (append_assoc up (host_reads (sayings es c)) (good (stored (after es c))))
          ∙ ap (λ (l : List (List ℕ)). l ++ good (stored (after es c))) (sym (reads-append (said e b) (sayings es c)));
      again = r.again;
    }

pub as_they_came : NothingElseIsRead
as_they_came b s u es o =
    let r = carry es (newest (stored b)) b s u (λ _. intact_outset (stored b)) o in
    record { as_they_came = r.carried; again = r.again }
