-- A frame that comes on the wire changes the receive store alone, of all that the driver looks at. Assumes nothing.
use mathlib.Core.Path.{◌≡◌, refl, ap, ◌∙◌, subst⁻¹}
use mathlib.Core.Bool.{Bool, true, false, cond, ◌&&◌}
use mathlib.Core.List.{List, [], ◌∷◌, ◌++◌, map, append_assoc, append-nil}
use Prim.Native.Nat.{ℕ, ◌+◌, ◌≤◌}
use native.Mathlib.Omega.{arith}
use lib.ListN.{length, length-append}
use lib.Dec.{eqb}
use Rattle.store.specs.Store.{at_newest, round4}
use Rattle.store.proofs.Laws.{at_snoc}
use Rattle.receive_rules.specs.Frame.{Frame, room}
use Rattle.receive_rules.specs.Wire as wires
use Rattle.receive_rules.specs.Wire.{begins, fresh, ends, fits8}
use Rattle.receive_rules.specs.Early.{settle_early}
use Rattle.receive_rules.proofs.Whole.{Storing, start-stored}
use Rattle.card_rules.specs.Adapter.{Adapter}
use Rattle.card_rules.specs.Update.{with_rx}
use Rattle.card_rules.specs.Room.{rx_room}
use Rattle.card_rules.specs.Settle.{settle}
use Rattle.card_rules.specs.Event as card
use Rattle.card_rules.specs.Calls.{on_wire, off_wire}
use Rattle.runs.specs.Run.{Bench, with_adapter, Start, Byte, End, wire, taken, next, after}
use Rattle.frames_carried.proofs.One.{On, byte-on}

-- what a frame on the wire leaves as it was
pub record Same (x b : Bench) : Type 0 where
  pub id : x.adapter.id ≡ b.adapter.id
  pub select : x.adapter.select ≡ b.adapter.select
  pub failed : x.adapter.rx.receiver.failed ≡ b.adapter.rx.receiver.failed
  pub read : x.adapter.rx.receiver.read ≡ b.adapter.rx.receiver.read
  pub queue : x.adapter.tx.queue ≡ b.adapter.tx.queue
  pub statuses : x.adapter.tx.reports.statuses ≡ b.adapter.tx.reports.statuses
  pub driver : x.driver ≡ b.driver

itself : (b : Bench) → Same b b
itself b = record { id = refl; select = refl; failed = refl; read = refl; queue = refl; statuses = refl; driver = refl }

trans : {x y z : Bench} → Same x y → Same y z → Same x z
trans p q =
    record {
      id = p.id ∙ q.id;
      select = p.select ∙ q.select;
      failed = p.failed ∙ q.failed;
      read = p.read ∙ q.read;
      queue = p.queue ∙ q.queue;
      statuses = p.statuses ∙ q.statuses;
      driver = p.driver ∙ q.driver;
    }

-- a step taken or refused
same_taken : (ok : Bool) (a : Adapter) (b : Bench) → Same (with_adapter a b) b → Same (taken ok a b) b
same_taken true a b s = s
same_taken false a b s = itself b

same-begins : (t : Bool) (first : List ℕ) (b : Bench) →
    Same (with_adapter (settle (with_rx (begins t first b.adapter.rx) b.adapter)) b) b
unfolding settle begins
same-begins true first b = record { id = refl; select = refl; failed = refl; read = refl; queue = refl; statuses = refl; driver = refl }
same-begins false first b = record { id = refl; select = refl; failed = refl; read = refl; queue = refl; statuses = refl; driver = refl }

same_start : (first : List ℕ) (eight : length first ≡ 8) (b : Bench) → Same (next (Start first eight) b) b
unfolding next card.wire_start wires.wire_start
same_start first eight b =
    same_taken (off_wire (wire b)) (card.wire_start first b.adapter) b
    (same-begins (card.taken first b.adapter && (b.adapter.rx.receiver.on && fits8 (rx_room b.adapter) b.adapter.rx.frames)) first b)

same_byte : (v : ℕ) (b : Bench) → Same (next (Byte v) b) b
unfolding next card.wire_byte wires.wire_byte settle
same_byte v b =
    same_taken (on_wire (wire b)) (card.wire_byte v b.adapter) b
    (record { id = refl; select = refl; failed = refl; read = refl; queue = refl; statuses = refl; driver = refl })

same_bytes : (bs : List ℕ) (b : Bench) → Same (after (map Byte bs) b) b
unfolding after
same_bytes [] b = itself b
same_bytes (v ∷ bs) b = trans (same_bytes bs (next (Byte v) b)) (same_byte v b)

same_end : (check alignment : Bool) (b : Bench) → Same (next (End check alignment) b) b
unfolding next card.wire_end wires.wire_end settle
same_end check alignment b =
    same_taken (on_wire (wire b)) (card.wire_end check alignment b.adapter) b
    (record { id = refl; select = refl; failed = refl; read = refl; queue = refl; statuses = refl; driver = refl })

-- ---- the bytes that are stored

module _ (first : List ℕ) (eight : length first ≡ 8) (b : Bench) where
  -- the start of a frame that the card takes
  begun : off_wire (wire b) ≡ true → card.taken first b.adapter ≡ true → b.adapter.rx.receiver.on ≡ true → room b.adapter.rx.frames + 8 ≤ rx_room b.adapter →
      On (rx_room b.adapter) b.adapter.rx.frames first (next (Start first eight) b)
  unfolding next card.wire_start settle
  begun w y o space =
      let a : Adapter = b.adapter in
      let e : next (Start first eight) b ≡ with_adapter (card.wire_start first a) b = ap (λ (t : Bool). taken t (card.wire_start first a) b) w in
      let s : Storing a.rx.frames first (settle_early (wires.wire_start (rx_room a) (card.taken first a) first a.rx)) =
      subst⁻¹ (λ (k : Bool). Storing a.rx.frames first (settle_early (wires.wire_start (rx_room a) k first a.rx))) y (start-stored (rx_room a) first a.rx o space) in
      subst⁻¹ (On (rx_room a) a.rx.frames first) e (record { storing = record { wire = s.wire; frames = s.frames }; room = refl })

bytes_on : (bs : List ℕ) (b : Bench) (size : ℕ) (fs : List Frame) (bytes : List ℕ) → On size fs bytes b → length bytes + length bs ≤ 1792 → room fs + round4 (length bytes + length bs) ≤ size →
    On size fs (bytes ++ bs) (after (map Byte bs) b)
unfolding after
bytes_on [] b size fs bytes s short space = rw append-nil s
bytes_on (v ∷ bs) b size fs bytes s short space =
    let more : length (bytes ++ (v ∷ [])) ≡ length bytes + 1 = length-append bytes (v ∷ []) in
    rw (append_assoc bytes (v ∷ []) bs)
    at (bytes_on bs (next (Byte v) b) size fs (bytes ++ (v ∷ [])) (byte-on b size fs bytes s v (omega arith) (omega arith)) (omega arith) (rw more (omega arith)))

-- the end
ended-on : (check alignment : Bool) (b : Bench) (size : ℕ) (fs : List Frame) (bytes : List ℕ) → On size fs bytes b →
    (next (End check alignment) b).adapter.rx.frames ≡ fs ++ (ends check alignment (fresh bytes) ∷ [])
unfolding next card.wire_end settle wires.wire_end
ended-on check alignment b size fs bytes s =
    let a : Adapter = b.adapter in
    let e : next (End check alignment) b ≡ with_adapter (card.wire_end check alignment a) b = ap (λ (n : ℕ). taken (on_wire n) (card.wire_end check alignment a) b) s.storing.wire in
    ap (λ (x : Bench). x.adapter.rx.frames) e
    ∙ ap (λ (n : ℕ). cond (eqb n 2) (at_newest (ends check alignment) a.rx.frames) a.rx.frames) s.storing.wire
    ∙ ap (at_newest (ends check alignment)) s.storing.frames
    ∙ at_snoc (ends check alignment) fs (fresh bytes)

-- ---- a whole frame, from its start to its end

abbrev pub brought : (first : List ℕ) → length first ≡ 8 → List ℕ → Bool → Bool → Bench → Bench
brought first eight bs check alignment b = next (End check alignment) (after (map Byte bs) (next (Start first eight) b))

pub same-brought : (first : List ℕ) (eight : length first ≡ 8) (bs : List ℕ) (check alignment : Bool) (b : Bench) → Same (brought first eight bs check alignment b) b
same-brought first eight bs check alignment b =
    trans (same_end check alignment (after (map Byte bs) (next (Start first eight) b))) (trans (same_bytes bs (next (Start first eight) b)) (same_start first eight b))

-- what the store holds, where the card takes the frame and it fits: at most 1,792 bytes
pub stores_brought : (first : List ℕ) (eight : length first ≡ 8) (bs : List ℕ) (check alignment : Bool) (b : Bench) →
    off_wire (wire b) ≡ true → card.taken first b.adapter ≡ true → b.adapter.rx.receiver.on ≡ true →
    8 + length bs ≤ 1792 → room b.adapter.rx.frames + round4 (8 + length bs) ≤ rx_room b.adapter →
    (brought first eight bs check alignment b).adapter.rx.frames ≡ b.adapter.rx.frames ++ (ends check alignment (fresh (first ++ bs)) ∷ [])
stores_brought first eight bs check alignment b w y o short space =
    ended-on check alignment (after (map Byte bs) (next (Start first eight) b)) (rx_room b.adapter) b.adapter.rx.frames (first ++ bs)
    (bytes_on bs (next (Start first eight) b) (rx_room b.adapter) b.adapter.rx.frames first (begun first eight b w y o (omega arith)) (rw eight short) (rw eight space))
