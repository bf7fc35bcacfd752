-- What open sets stays so under the driver's calls, the wire and the outcomes. Assumes nothing.
use mathlib.Core.Path.{◌≡◌, refl, ap, sym, ◌∙◌, subst⁻¹}
use mathlib.Core.Bool.{Bool, true, false}
use mathlib.Core.List.{List, [], ◌∷◌}
use Prim.Native.Nat.{ℕ}
use lib.Dec.{eqb}
use Rattle.bits.proofs.Tests.{of_cond, by_test, never}
use Rattle.port_rules.specs.declared.IdState.{IdState}
use Rattle.transmit_rules.specs.Tx.{ready}
use Rattle.card_rules.specs.declared.Select.{Select}
use Rattle.card_rules.specs.Adapter.{Adapter}
use Rattle.card_rules.specs.Settle.{settle}
use Rattle.card_rules.specs.Command.{acknowledge, act, command, commanded}
use Rattle.card_rules.specs.Read.{after_word}
use Rattle.card_rules.specs.Write.{covers_high, write, write1, write2, write_word, write_byte}
use Rattle.card_rules.specs.Access.{Access, ReadWord, ReadByte, WriteWord, WriteByte, Step, effect, access}
use Rattle.card_rules.specs.Event as card
use Rattle.card_rules.proofs.Active.{woken, is_woken}
use Rattle.card_rules.proofs.StepEnds.{asleep, awake}
use Rattle.card_rules.specs.Calls.{on_wire, off_wire}
use Rattle.driver_rules.specs.declared.Driver.{Driver}
use Rattle.driver_rules.proofs.Runs.{asleep_run}
use Rattle.driver_rules.specs.Talk.{Talk, run}
use Rattle.driver_rules.specs.Open.{open_talk}
use Rattle.driver_rules.specs.Send.{Sending}
use Rattle.driver_rules.specs.Items.{Serving}
use Rattle.driver_rules.specs.Calls.{open_call}
use Rattle.runs.specs.Run.{Bench, full, Event, Start, Byte, End, Sent, Collided, Open, Send, Service, opens, sends, serves, wire, taken, next, after}
use Rattle.runs.proofs.Status.{shown}
use Rattle.runs.proofs.Talks.{Each, ends, asks, Accesses, each-send, each-service}

-- An active card has the window and the masks that open set.
pub record Set (a : Adapter) : Type 0 where
  pub is : a.id.active ≡ true → a.select ≡ shown a.select.filter

-- ---- the accesses of the driver's calls

abbrev pub Fine : Access → Type 0
Fine x = (a : Adapter) → Set a → Set (access x a).adapter

-- an effect that leaves the identity and the selection as they were
fine : (x : Access) → ((a : Adapter) → a.select ≡ shown a.select.filter → ((effect x a).adapter.id ≡ a.id) × ((effect x a).adapter.select ≡ a.select)) → Fine x
unfolding settle
fine x h a s =
    by_test a.id.active
    (λ y.
    let e = h a (s.is y) in
    subst⁻¹ (λ (t : Step). Set t.adapter) (awake x a y)
    (record { is = λ _. e.1 ∙ s.is y ∙ ap (λ (v : Select). shown v.filter) (sym e.1) }))
    (λ n. subst⁻¹ (λ (t : Step). Set t.adapter) (asleep x a n) s)

-- in window 1
module _ (a : Adapter) where
  abbrev Same : Adapter → Type 0
  Same b = (b.id ≡ a.id) × (b.select ≡ a.select)

  one : a.select ≡ shown a.select.filter → a.select.window ≡ 1
  one e = ap (λ (v : Select). v.window) e

pub fine-status : Fine (ReadWord 14)
unfolding effect after_word
fine-status = fine (ReadWord 14) (λ a w. (refl, refl))

fine-free : Fine (ReadWord 12)
unfolding effect after_word
fine-free = fine (ReadWord 12) (λ a w. (refl, refl))

pub fine-rx : Fine (ReadWord 8)
unfolding effect after_word
fine-rx = fine (ReadWord 8) (λ a w. (refl, refl))

fine_data : Fine (ReadWord 0)
unfolding effect after_word
fine_data = fine (ReadWord 0) (λ a w. of_cond (Same a) (eqb a.select.window 1) (refl, refl) (refl, refl))

fine-told : Fine (ReadByte 11)
unfolding effect
fine-told = fine (ReadByte 11) (λ a w. (refl, refl))

fine-write : (v : ℕ) → Fine (WriteWord 0 v)
unfolding effect write_word write write1
fine-write v = fine (WriteWord 0 v) (λ a w. rw (one a w) (refl, refl))

fine-pop : Fine (WriteByte 11 0)
unfolding effect write_byte write write1 covers_high
fine-pop = fine (WriteByte 11 0) (λ a w. rw (one a w) (refl, refl))

pub fine-discard : Fine (WriteWord 14 16384)
unfolding effect write_word commanded command
fine-discard = fine (WriteWord 14 16384) (λ a w. rw (one a w) (refl, refl))

fine-enable : Fine (WriteWord 14 18432)
unfolding effect write_word commanded command act
fine-enable = fine (WriteWord 14 18432) (λ a w. rw (one a w) (refl, refl))

fine_ack : Fine (WriteWord 14 26729)
unfolding effect write_word commanded command act acknowledge
fine_ack = fine (WriteWord 14 26729) (λ a w. rw (one a w) (refl, refl))

fine-accesses : Accesses Fine
fine-accesses =
    record {
      status = fine-status;
      free = fine-free;
      oldest = fine-rx;
      word = fine_data;
      told = fine-told;
      write = fine-write;
      pop = fine-pop;
      discard = fine-discard;
      enable = fine-enable;
      acknowledge = fine_ack;
    }

-- ---- talks

record Left (a : Adapter) (was : Bool) (d : Driver) : Type 0 where
  set : Set a
  opened : d.opened ≡ was

keeps-run : {A : Type 0} (was : Bool) (driver_of : A → Driver) {t : Talk A} (a : Adapter) → Each Fine was driver_of t → Set a
    → Left (run t a).adapter was (driver_of (run t a).answer)
unfolding run
keeps-run was driver_of a (ends k) s = record { set = s; opened = k }
keeps-run was driver_of a (asks {x} f k) s = keeps-run was driver_of (access x a).adapter (k (access x a).value) (f a s)

-- ---- open

-- Open sets the window and the masks of an active card, whatever they were.
open_woken : (d : Driver) (w₀ w₁ w₂ : ℕ) (a : Adapter) → (run (open_talk d w₀ w₁ w₂) (woken true a)).adapter.select ≡ shown 5
unfolding run open_talk access effect commanded command act settle write_word write_byte write write2
open_woken d w₀ w₁ w₂ a = refl

pub opens-set : (w₀ w₁ w₂ : ℕ) (b : Bench) → Set (next (Open w₀ w₁ w₂) b).adapter
unfolding next opens open_call
opens-set w₀ w₁ w₂ b =
    by_test b.adapter.id.active
    (λ y.
    let e = ap (λ (a : Adapter). (run (open_talk b.driver w₀ w₁ w₂) a).adapter.select) (is_woken b.adapter y) ∙ open_woken b.driver w₀ w₁ w₂ b.adapter in
    record { is = λ _. e ∙ ap (λ (v : Select). shown v.filter) (sym e) })
    (λ n. record { is = λ y. never (sym n ∙ ap (λ (a : Adapter). a.id.active) (sym (asleep_run (open_talk b.driver w₀ w₁ w₂) b.adapter n)) ∙ y) })

pub opens-driver : (w₀ w₁ w₂ : ℕ) (b : Bench) → (next (Open w₀ w₁ w₂) b).driver.opened ≡ true
unfolding next opens open_call open_talk run
opens-driver w₀ w₁ w₂ b = refl

-- ---- events

pub record Opened (b : Bench) : Type 0 where
  pub set : Set b.adapter
  pub driver : b.driver.opened ≡ true

-- a step that leaves the identity and the selection, taken or refused
on_wire_is : (ok : Bool) (a : Adapter) (b : Bench) → Opened b → a.id ≡ b.adapter.id → a.select ≡ b.adapter.select → Opened (taken ok a b)
on_wire_is true a b o i s =
    record { set = record { is = λ y. s ∙ o.set.is (sym (ap (λ (v : IdState). v.active) i) ∙ y) ∙ ap (λ (v : Select). shown v.filter) (sym s) }; driver = o.driver }
on_wire_is false a b o i s = o

pub keeps_open : (e : Event) (b : Bench) → Opened b → Opened (next e b)
unfolding next sends serves settle card.wire_start card.wire_byte card.wire_end card.success card.collisions
keeps_open (Start first eight) b o = on_wire_is (off_wire (wire b)) (card.wire_start first b.adapter) b o refl refl
keeps_open (Byte v) b o = on_wire_is (on_wire (wire b)) (card.wire_byte v b.adapter) b o refl refl
keeps_open (End c l) b o = on_wire_is (on_wire (wire b)) (card.wire_end c l b.adapter) b o refl refl
keeps_open Sent b o = on_wire_is (ready b.adapter.tx) (card.success b.adapter) b o refl refl
keeps_open Collided b o = on_wire_is (ready b.adapter.tx) (card.collisions b.adapter) b o refl refl
keeps_open (Open w₀ w₁ w₂) b o = record { set = opens-set w₀ w₁ w₂ b; driver = opens-driver w₀ w₁ w₂ b }
keeps_open (Send packet) b o =
    let l = keeps-run b.driver.opened (λ (x : Sending). x.driver) b.adapter (each-send Fine fine-accesses b.driver packet) o.set in
    record { set = l.set; driver = l.opened ∙ o.driver }
keeps_open (Service n r) b o =
    let l = keeps-run b.driver.opened (λ (x : Serving). x.driver) b.adapter (each-service Fine fine-accesses b.driver n (full r)) o.set in
    record { set = l.set; driver = l.opened ∙ o.driver }

pub keeps_all : (es : List Event) (b : Bench) → Opened b → Opened (after es b)
unfolding after
keeps_all [] b o = o
keeps_all (e ∷ es) b o = keeps_all es (next e b) (keeps_open e b o)
