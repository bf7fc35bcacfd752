-- Every access and event keeps the soundness of the adapter, every call that of the driver too; so every run does. Assumes nothing.
use mathlib.Core.Path.{◌≡◌, refl}
use mathlib.Core.Bool.{Bool, true, not, ◌&&◌}
use mathlib.Core.List.{List, [], ◌∷◌}
use Prim.Native.Nat.{ℕ}
use borrow.Author.Tests.{eqb-true}
use lib.Dec.{ltb, eqb}
use Rattle.bits.proofs.Tests.{both, join, of_cond, of_test}
use Rattle.port_rules.specs.declared.IdState.{IdState}
use Rattle.port_rules.specs.Card.{id_write, id_after_read}
use Rattle.port_rules.specs.Sound.{id_sound}
use Rattle.port_rules.proofs.Keep.{every_step_keeps_soundness_lem}
use Rattle.transmit_rules.specs.Tx.{ready}
use Rattle.card_rules.specs.Adapter.{Adapter}
use Rattle.card_rules.specs.Settle.{settle}
use Rattle.card_rules.specs.Sound.{sound}
use Rattle.card_rules.proofs.Sides.{identified, kept_of, settle-sound}
use Rattle.card_rules.proofs.CommandKeeps.{Keeping}
use Rattle.card_rules.proofs.Power.{power_on_sound}
use Rattle.card_rules.specs.Read.{after_word}
use Rattle.card_rules.specs.Access.{Access, ReadWord, ReadByte, WriteWord, WriteByte, Step, effect, access}
use Rattle.card_rules.specs.Event as card
use Rattle.card_rules.proofs.StepKeeps as keeps
use Rattle.card_rules.specs.Calls.{on_wire, off_wire}
use Rattle.driver_rules.specs.Driver.{driver_sound, never_opened}
use Rattle.driver_rules.specs.Talk.{Talk, done, ask, run}
use Rattle.driver_rules.specs.Open.{open_talk}
use Rattle.driver_rules.specs.Items.{Serving}
use Rattle.driver_rules.specs.Calls.{open_call, send_call, service_call}
use Rattle.driver_rules.proofs.Keeps.{send-keeps, service-keeps}
use Rattle.runs.specs.Run.{Bench, sound_bench, with_adapter, Areas, full, Event, Start, Byte, End, Sent, Collided, Open, Send, Service, Earlier, Host, IdWrite, IdRead, Later, opens, sends, serves, wire, taken, next, after, permitted, before, since}
use Rattle.runs.specs.Sound.{fresh, EveryStepKeepsSoundness}

-- ---- the adapter

settled : (a : Adapter) → Keeping a → sound (settle a) ≡ true
settled a k = settle-sound a k.is

pub effect-keeps : (x : Access) (a : Adapter) → sound a ≡ true → Keeping (effect x a).adapter
unfolding effect after_word
effect-keeps (ReadWord o) a s = of_cond Keeping (ltb o 4 && eqb a.select.window 1) (keeps.taken-keeps a s) (record { is = kept_of a s })
effect-keeps (ReadByte o) a s = record { is = kept_of a s }
effect-keeps (WriteWord o v) a s = keeps.word_keeps a s o v
effect-keeps (WriteByte o v) a s = keeps.byte-keeps a s o v

pub access-sound : (x : Access) (a : Adapter) → sound a ≡ true → sound (access x a).adapter ≡ true
unfolding access
access-sound x a s =
    of_cond (λ (t : Step). sound t.adapter ≡ true) a.id.active (settled (effect x a).adapter (effect-keeps x a s)) s

pub run_sound : {A : Type 0} (t : Talk A) (a : Adapter) → sound a ≡ true → sound (run t a).adapter ≡ true
unfolding run
run_sound (done x) a s = s
run_sound (ask x k) a s = run_sound (k (access x a).value) (access x a).adapter (access-sound x a s)

-- ---- events

pub adapter_of : (b : Bench) → sound_bench b ≡ true → sound b.adapter ≡ true
adapter_of b s = (both (sound b.adapter) (driver_sound b.driver) s).0

pub driver_of_lem : (b : Bench) → sound_bench b ≡ true → driver_sound b.driver ≡ true
driver_of_lem b s = (both (sound b.adapter) (driver_sound b.driver) s).1

pub bench_by : (b : Bench) → sound b.adapter ≡ true → driver_sound b.driver ≡ true → sound_bench b ≡ true
bench_by b s d = join (sound b.adapter) (driver_sound b.driver) s d

-- a step that is taken or refused
taken-sound : (ok : Bool) (a : Adapter) (b : Bench) → sound_bench b ≡ true → (ok ≡ true → sound a ≡ true) → sound_bench (taken ok a b) ≡ true
taken-sound ok a b s h = bench_by (taken ok a b) (of_test (λ (x : Adapter). sound x ≡ true) ok h (λ _. adapter_of b s)) (driver_of_lem b s)

module _ (b : Bench) (s : sound_bench b ≡ true) where
  abbrev a : Adapter
  a = b.adapter

  h : sound a ≡ true
  h = adapter_of b s

  d : driver_sound b.driver ≡ true
  d = driver_of_lem b s

  open_sound : (w₀ w₁ w₂ : ℕ) → sound_bench (next (Open w₀ w₁ w₂) b) ≡ true
  unfolding next opens open_call open_talk run
  open_sound w₀ w₁ w₂ = bench_by (next (Open w₀ w₁ w₂) b) (run_sound (open_talk b.driver w₀ w₁ w₂) a h) d

  send-sound : (packet : List ℕ) → sound_bench (next (Send packet) b) ≡ true
  unfolding next sends send_call
  send-sound packet = bench_by (next (Send packet) b) (run_sound (send_call true b.driver packet) a h) (send-keeps b.driver d packet a)

  abbrev Kept : Talk Serving → Type 0
  Kept t = driver_sound (run t a).answer.driver ≡ true

  serve-sound : (budget : ℕ) (areas : Areas) → sound_bench (next (Service budget areas) b) ≡ true
  unfolding next serves service_call run
  serve-sound budget areas =
      bench_by (next (Service budget areas) b) (run_sound (service_call true (full areas) b.driver budget) a h)
      (of_cond Kept (not b.driver.opened) d (of_cond Kept (not (full areas)) d (service-keeps budget b.driver a d)))

pub next-sound : (e : Event) (b : Bench) → sound_bench b ≡ true → sound_bench (next e b) ≡ true
unfolding next card.wire_start card.wire_byte card.wire_end card.success card.collisions
next-sound (Start first eight) b s =
    taken-sound (off_wire (wire b)) _ b s (λ idle. settled _ (keeps.start-keeps b.adapter (adapter_of b s) _ first eight (eqb-true (wire b) 0 idle)))
next-sound (Byte v) b s = taken-sound (on_wire (wire b)) _ b s (λ _. settled _ (keeps.wire-byte-keeps b.adapter (adapter_of b s) v))
next-sound (End check alignment) b s = taken-sound (on_wire (wire b)) _ b s (λ _. settled _ (keeps.end-keeps b.adapter (adapter_of b s) check alignment))
next-sound Sent b s = taken-sound (ready b.adapter.tx) _ b s (λ _. settled _ (keeps.success-keeps b.adapter (adapter_of b s)))
next-sound Collided b s = taken-sound (ready b.adapter.tx) _ b s (λ _. settled _ (keeps.collisions-keeps b.adapter (adapter_of b s)))
next-sound (Open w₀ w₁ w₂) b s = open_sound b s w₀ w₁ w₂
next-sound (Send packet) b s = send-sound b s packet
next-sound (Service budget areas) b s = serve-sound b s budget areas

pub after-sound : (es : List Event) (b : Bench) → sound_bench b ≡ true → sound_bench (after es b) ≡ true
unfolding after
after-sound [] b s = s
after-sound (e ∷ es) b s = after-sound es (next e b) (next-sound e b s)

-- ---- histories

seat-sound : (i : IdState) (b : Bench) → sound_bench b ≡ true → id_sound i ≡ true → sound_bench (with_adapter (card.seat i b.adapter) b) ≡ true
unfolding card.seat
seat-sound i b s g = bench_by (with_adapter (card.seat i b.adapter) b) (settled _ (keeps.seat-keeps b.adapter (adapter_of b s) i g)) (driver_of_lem b s)

pub before-sound : (e : Earlier) (b : Bench) → sound_bench b ≡ true → sound_bench (before e b) ≡ true
unfolding before
before-sound (Host x) b s = taken-sound (permitted x b.adapter) _ b s (λ _. access-sound x b.adapter (adapter_of b s))
before-sound (IdWrite p small byte) b s =
    seat-sound (id_write b.adapter.id p byte) b s (every_step_keeps_soundness_lem.writes b.adapter.id p byte small (identified b.adapter (adapter_of b s)))
before-sound (IdRead p small bus) b s =
    seat-sound (id_after_read b.adapter.id p bus) b s (every_step_keeps_soundness_lem.reads b.adapter.id p bus (identified b.adapter (adapter_of b s)))
before-sound (Later e) b s = next-sound e b s

pub since-sound : (hs : List Earlier) (b : Bench) → sound_bench b ≡ true → sound_bench (since hs b) ≡ true
unfolding since
since-sound [] b s = s
since-sound (h ∷ hs) b s = since-sound hs (before h b) (before-sound h b s)

-- ---- power-on

pub soundness_is_kept : EveryStepKeepsSoundness
soundness_is_kept =
    record {
      at_power_on_is = λ words. bench_by (fresh words) (power_on_sound words) refl;
      unopened = λ b s. bench_by (record { adapter = b.adapter; driver = never_opened }) (adapter_of b s) refl;
      through_any_steps = since-sound;
    }
