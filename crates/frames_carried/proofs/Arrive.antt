-- A good frame arrives, whatever is called and sent while it comes: nothing but the wire touches the frame that is coming, and room is only given back.
-- Assumes nothing.
use mathlib.Core.Path.{◌≡◌, refl, sym, ap, subst⁻¹, ◌∙◌}
use mathlib.Core.Bool.{Bool, true, cond, ◌&&◌}
use mathlib.Core.List.{List, [], ◌∷◌, ◌++◌, append_assoc, append-nil}
use Prim.Native.Nat.{ℕ, ◌+◌, ◌%◌, ◌≤◌}
use native.Mathlib.Omega.{arith}
use borrow.Author.Tests.{le-ltb}
use lib.ListN.{length, length-append}
use lib.Dec.{eqb, ltb}
use Rattle.bits.proofs.Tests.{both, never}
use Rattle.store.specs.Store.{round4}
use Rattle.receive_rules.specs.Frame.{Frame, is_coming, overran, room}
use Rattle.receive_rules.specs.Wire.{fresh, ending, end_of}
use Rattle.transmit_rules.specs.Tx as tx
use Rattle.transmit_rules.specs.Tx.{ready}
use Rattle.card_rules.specs.Adapter.{Adapter}
use Rattle.card_rules.specs.Room.{rx_size, rx_room}
use Rattle.card_rules.specs.Event as card
use Rattle.card_rules.specs.Calls.{off_wire}
use Rattle.driver_rules.specs.Calls.{open_call, send_call}
use Rattle.runs.specs.Run.{Bench, sound_bench, Areas, Event, Start, Byte, End, Sent, Collided, Open, Send, Service, opens, sends, wire, next}
use Rattle.runs.proofs.Kept.{next-sound}
use Rattle.frames_carried.specs.Bytes.{octets, octets_of, wire_octets, between, bytes_in}
use Rattle.frames_carried.specs.Brings.{stored, is_whole, no_code, hears, arrives, arrived}
use Rattle.frames_carried.specs.Carried.{Unread, AGoodFrameArrives}
use Rattle.frames_carried.proofs.Still.{Still, still_open, still_send}
use Rattle.frames_carried.proofs.Good.{Intact, Tails, tail_same, intact_start}
use Rattle.frames_carried.proofs.Events.{Steady, moves, sane_of, still_outcome, serve_carries}
use Rattle.frames_carried.proofs.One.{On, start-on, byte-on}

-- ---- what calls and outcomes leave

record Stays (a b : Adapter) : Type 0 where
  wire : b.rx.receiver.wire ≡ a.rx.receiver.wire
  split : b.config.second ≡ a.config.second
  tail : Tails a.rx.frames b.rx.frames

still_stays : (a b : Adapter) → Still a b → Stays a b
still_stays a b s = record { wire = s.wire; split = s.split; tail = tail_same a.rx.frames b.rx.frames s.frames }

-- the frame on the wire is stored as it was, behind frames that take no more room
record Onward (size : ℕ) (fs : List Frame) (bytes : List ℕ) (b : Bench) : Type 0 where
  sound : sound_bench b ≡ true
  unread : Unread b
  before : List Frame
  on : On size before bytes b
  less : room before ≤ room fs

-- what was heard is what is stored
steady : (size : ℕ) (fs : List Frame) (bytes : List ℕ) (b : Bench) → sound_bench b ≡ true → Unread b → On size fs bytes b → Steady bytes b.adapter
steady size fs bytes b s u o =
    record { sane = sane_of b s u; intact = λ _. subst⁻¹ (Intact bytes) o.storing.frames (intact_start fs bytes) }

module _ (size : ℕ) (fs : List Frame) (bytes : List ℕ) (b : Bench) (s : sound_bench b ≡ true) (u : Unread b) (o : On size fs bytes b) where
  unread-next : (e : Event) → octets_of e ≡ true → Unread (next e b)
  unread-next e k =
      let m = moves e bytes b (steady size fs bytes b s u o) k in
      record { none_read = m.read; no_failure = m.failed; held = m.held }

  onward : (e : Event) → octets_of e ≡ true → Stays b.adapter (next e b).adapter → Onward size fs bytes (next e b)
  unfolding is_coming
  onward e k t =
      let x = t.tail (fresh bytes) fs refl o.storing.frames in
      record {
        sound = next-sound e b s;
        unread = unread-next e k;
        before = x.before;
        on = record { storing = record { wire = t.wire ∙ o.storing.wire; frames = x.shape }; room = ap (λ (n : ℕ). rx_size (n % 4)) t.split ∙ o.room };
        less = x.less;
      }

  sent_onward : Onward size fs bytes (next Sent b)
  unfolding next octets_of card.success
  sent_onward = onward Sent refl (still_stays b.adapter _ (still_outcome b.adapter (tx.success b.adapter.tx) (ready b.adapter.tx)))

  collided_onward : Onward size fs bytes (next Collided b)
  unfolding next octets_of card.collisions
  collided_onward = onward Collided refl (still_stays b.adapter _ (still_outcome b.adapter (tx.collisions b.adapter.tx) (ready b.adapter.tx)))

  open_onward : (w₀ w₁ w₂ : ℕ) → Onward size fs bytes (next (Open w₀ w₁ w₂) b)
  unfolding next octets_of opens open_call
  open_onward w₀ w₁ w₂ = onward (Open w₀ w₁ w₂) refl (still_stays b.adapter _ (still_open b.driver w₀ w₁ w₂ b.adapter))

  send_onward : (packet : List ℕ) → Onward size fs bytes (next (Send packet) b)
  unfolding next octets_of sends send_call
  send_onward packet = onward (Send packet) refl (still_stays b.adapter _ (still_send b.driver packet b.adapter))

  serve_onward : (budget : ℕ) (areas : Areas) → Onward size fs bytes (next (Service budget areas) b)
  unfolding next octets_of
  serve_onward budget areas =
      let c = serve_carries budget areas b (sane_of b s u) in
      onward (Service budget areas) refl (record { wire = c.wire; split = c.split; tail = c.tail })

-- ---- the end

no-code-newest : (fs : List Frame) (f : Frame) → no_code true true (fs ++ (f ∷ [])) ≡ is_whole (end_of true true f)
unfolding no_code
no-code-newest [] f = refl
no-code-newest (g ∷ []) f = refl
no-code-newest (g ∷ h ∷ fs) f = no-code-newest (h ∷ fs) f

ends-whole : (bytes : List ℕ) → 60 ≤ length bytes → length bytes ≤ 1514 → is_whole (end_of true true (fresh bytes)) ≡ true
unfolding is_whole ending overran
ends-whole bytes l s = rw (le-ltb 1514 (length bytes) s, le-ltb (length bytes) 60 l)

-- ---- all events between

arrive : (es : List Event) (size : ℕ) (fs : List Frame) (bytes : List ℕ) (b : Bench) → sound_bench b ≡ true → Unread b → On size fs bytes b
    → between es ≡ true → wire_octets es ≡ true → 60 ≤ length bytes + length (bytes_in es) → length bytes + length (bytes_in es) ≤ 1514
    → room fs + round4 (length bytes + length (bytes_in es)) ≤ size
    → arrived (es ++ (End true true ∷ [])) bytes b ≡ (bytes ++ bytes_in es) ∷ []
unfolding arrived arrives hears between wire_octets octets_of bytes_in
arrive [] size fs bytes b s u o k w long short space =
    let e : (eqb (wire b) 2 && no_code true true (stored b)) ≡ true =
    ap (λ (n : ℕ). eqb n 2 && no_code true true (stored b)) o.storing.wire ∙ ap (no_code true true) o.storing.frames ∙ no-code-newest fs (fresh bytes)
    ∙ ends-whole bytes (omega arith) (omega arith) in
    ap (λ (t : Bool). cond t (bytes ∷ []) [] ++ []) e ∙ ap (λ (l : List ℕ). l ∷ []) (sym (append-nil bytes))
arrive (Start first eight ∷ es) size fs bytes b s u o k w long short space = never k
arrive (End check alignment ∷ es) size fs bytes b s u o k w long short space = never k
arrive (Byte v ∷ es) size fs bytes b s u o k w long short space =
    let p = both (ltb v 256) (wire_octets es) w in
    let more : length (bytes ++ (v ∷ [])) ≡ length bytes + 1 = length-append bytes (v ∷ []) in
    arrive es size fs (bytes ++ (v ∷ [])) (next (Byte v) b) (next-sound (Byte v) b s) (unread-next size fs bytes b s u o (Byte v) p.0)
    (byte-on b size fs bytes o v (omega arith) (omega arith)) k p.1 (omega arith) (omega arith) (rw more (omega arith))
    ∙ ap (λ (l : List ℕ). l ∷ []) (append_assoc bytes (v ∷ []) (bytes_in es))
arrive (Sent ∷ es) size fs bytes b s u o k w long short space =
    let n = sent_onward size fs bytes b s u o in
    arrive es size n.before bytes (next Sent b) n.sound n.unread n.on k w long short (omega (arith, n.less))
arrive (Collided ∷ es) size fs bytes b s u o k w long short space =
    let n = collided_onward size fs bytes b s u o in
    arrive es size n.before bytes (next Collided b) n.sound n.unread n.on k w long short (omega (arith, n.less))
arrive (Open w₀ w₁ w₂ ∷ es) size fs bytes b s u o k w long short space =
    let n = open_onward size fs bytes b s u o w₀ w₁ w₂ in
    arrive es size n.before bytes (next (Open w₀ w₁ w₂) b) n.sound n.unread n.on k w long short (omega (arith, n.less))
arrive (Send packet ∷ es) size fs bytes b s u o k w long short space =
    let n = send_onward size fs bytes b s u o packet in
    arrive es size n.before bytes (next (Send packet) b) n.sound n.unread n.on k w long short (omega (arith, n.less))
arrive (Service budget areas ∷ es) size fs bytes b s u o k w long short space =
    let n = serve_onward size fs bytes b s u o budget areas in
    arrive es size n.before bytes (next (Service budget areas) b) n.sound n.unread n.on k w long short (omega (arith, n.less))

pub good-arrives : AGoodFrameArrives
unfolding arrived arrives hears wire_octets octets_of
good-arrives b s u first eight es k w t heard =
    let p = both (octets first) (wire_octets es) w in
    let c : Bench = next (Start first eight) b in
    let on = start-on b first eight (bytes_in es) t in
    let m = moves (Start first eight) heard b (record { sane = sane_of b s u; intact = λ e. absurd (omega (arith, t.idle)) }) p.0 in
    let began : cond (off_wire (wire b)) first heard ≡ first = ap (λ (n : ℕ). cond (off_wire n) first heard) t.idle in
    ap (λ (l : List ℕ). arrived (es ++ (End true true ∷ [])) l c) began
    ∙ arrive es (rx_room b.adapter) (stored b) first c (next-sound (Start first eight) b s) (record { none_read = m.read; no_failure = m.failed; held = m.held }) on k p.1
    (omega (arith, t.long)) (omega (arith, t.short)) (rw eight t.space)
