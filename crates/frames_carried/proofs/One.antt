-- One good frame: stored as it comes, and handed up as it is stored. Assumes nothing.
use Rattle.std.specs.Prelude.{Ok, Err}
use mathlib.Core.Path.{◌≡◌, refl, ap, subst⁻¹, ◌∙◌}
use mathlib.Core.Bool.{Bool, true, false, cond, not, ◌&&◌, ◌||◌}
use mathlib.Core.List.{List, [], ◌∷◌, ◌++◌, append_assoc, append-nil, map}
use Prim.Native.Nat.{ℕ, zero, suc, ◌+◌, ◌≤◌, ◌<◌}
use native.Mathlib.Omega.{arith}
use borrow.Author.Tests.{le-ltb}
use lib.ListN.{length, take, drop, replicate, length-append, length-replicate}
use lib.Dec.{leb, eqb}
use Rattle.refusal.specs.declared.Refusal.TheVariants.{NeverOpened, AreaShort}
use Rattle.bits.specs.Bits.{has}
use Rattle.bits.proofs.Tests.{join, neither}
use Rattle.store.specs.Store.{at_newest, round4}
use Rattle.store.proofs.Laws.{at_snoc}
use Rattle.receive_rules.specs.Frame.{whole, Frame, is_coming, overran, room}
use Rattle.receive_rules.specs.Wire as wires
use Rattle.receive_rules.specs.Wire.{fresh, ending, ends, passes}
use Rattle.receive_rules.specs.Early.{settle_early}
use Rattle.receive_rules.specs.Reading.{complete, without_oldest}
use Rattle.receive_rules.proofs.Whole.{Storing, start-stored, byte-stored}
use Rattle.transmit_rules.specs.Outcome.{some}
use Rattle.card_rules.specs.Adapter.{Adapter}
use Rattle.card_rules.specs.Room.{rx_room}
use Rattle.card_rules.specs.Settle.{settle}
use Rattle.card_rules.specs.Status.{failure, flags, status_word}
use Rattle.card_rules.specs.Access.{ReadWord, WriteWord, step, access}
use Rattle.card_rules.specs.Event as card
use Rattle.card_rules.specs.Calls.{on_wire, off_wire}
use Rattle.driver_rules.specs.declared.Driver.{Driver}
use Rattle.driver_rules.specs.Registers.{unfit, tx_complete, rx_complete, bad, length_in}
use Rattle.driver_rules.specs.Talk.{Talk, done, Ran, run, after_reads, bytes_read}
use Rattle.driver_rules.proofs.Runs.{reads_law}
use Rattle.driver_rules.specs.declared.Item.TheVariants as answer
use Rattle.driver_rules.specs.Areas.{in_look, in_frame}
use Rattle.driver_rules.specs.Items.{Serving, plain, fetch_talk, words_in}
use Rattle.driver_rules.specs.Service.{look_talk}
use Rattle.driver_rules.specs.Calls.{service_call}
use Rattle.driver_rules.specs.Paper.{frame}
use Rattle.runs.specs.Run.{Bench, sound_bench, with_adapter, Areas, full, Start, Byte, End, served, serves, serving, taken, next, said, after}
use Rattle.runs.proofs.Kept.{adapter_of}
use Rattle.frames_carried.specs.Brings.{stored}
use Rattle.frames_carried.specs.Reads.{laid_in}
use Rattle.frames_carried.specs.Carried.{Taken, OneGoodFrameIsStored, Waiting, OneGoodFrameIsHandedUp}
use Rattle.frames_carried.proofs.Good.{shows, whole-fine}
use Rattle.frames_carried.proofs.Fetch.{At}
use Rattle.driver_rules.proofs.Status.{status-window, status_received, status-completed, status-failed}
use Rattle.frames_carried.proofs.Service.{read-status, read-rx, dropped, all_read, after_all}

-- ---- stored

-- the wire stores a frame with these bytes behind the frames fs, in a store of this size
pub record On (size : ℕ) (fs : List Frame) (bytes : List ℕ) (b : Bench) : Type 0 where
  pub storing : Storing fs bytes b.adapter.rx
  pub room : rx_room b.adapter ≡ size

module _ (b : Bench) where
  pub start-on : (first : List ℕ) (eight : length first ≡ 8) (bs : List ℕ) → Taken first bs b → On (rx_room b.adapter) (stored b) first (next (Start first eight) b)
  unfolding next card.wire_start settle
  start-on first eight bs t =
      let a : Adapter = b.adapter in
      let e : next (Start first eight) b ≡ with_adapter (card.wire_start first a) b = ap (λ (n : ℕ). taken (off_wire n) (card.wire_start first a) b) t.idle in
      let y : card.taken first a ≡ true = join a.id.active (passes a.select.filter a.config.station first) t.active t.filter in
      let s : Storing (stored b) first (settle_early (wires.wire_start (rx_room a) (card.taken first a) first a.rx)) =
      subst⁻¹ (λ (k : Bool). Storing (stored b) first (settle_early (wires.wire_start (rx_room a) k first a.rx))) y
      (start-stored (rx_room a) first a.rx t.on (omega (arith, t.space, t.long))) in
      subst⁻¹ (On (rx_room a) (stored b) first) e (record { storing = record { wire = s.wire; frames = s.frames }; room = refl })

  module _ (size : ℕ) (fs : List Frame) (bytes : List ℕ) (s : On size fs bytes b) where
    pub byte-on : (v : ℕ) → length bytes < 1792 → room fs + round4 (length bytes + 1) ≤ size → On size fs (bytes ++ (v ∷ [])) (next (Byte v) b)
    unfolding next card.wire_byte settle
    byte-on v short space =
        let a : Adapter = b.adapter in
        let e : next (Byte v) b ≡ with_adapter (card.wire_byte v a) b = ap (λ (n : ℕ). taken (on_wire n) (card.wire_byte v a) b) s.storing.wire in
        let t : Storing fs (bytes ++ (v ∷ [])) (settle_early (wires.wire_byte (rx_room a) v a.rx)) =
        subst⁻¹ (λ (n : ℕ). Storing fs (bytes ++ (v ∷ [])) (settle_early (wires.wire_byte n v a.rx))) s.room (byte-stored size v bytes fs a.rx s.storing short space) in
        subst⁻¹ (On size fs (bytes ++ (v ∷ []))) e (record { storing = record { wire = t.wire; frames = t.frames }; room = s.room })

    end_on : 60 ≤ length bytes → length bytes ≤ 1514 → stored (next (End true true) b) ≡ fs ++ (record { bytes = bytes; state = whole } ∷ [])
    unfolding next card.wire_end settle wires.wire_end ending overran
    end_on long short =
        let a : Adapter = b.adapter in
        let e : next (End true true) b ≡ with_adapter (card.wire_end true true a) b = ap (λ (n : ℕ). taken (on_wire n) (card.wire_end true true a) b) s.storing.wire in
        let f : ends true true (fresh bytes) ≡ record { bytes = bytes; state = whole } = rw (le-ltb 1514 (length bytes) short, le-ltb (length bytes) 60 long) in
        ap stored e
        ∙ ap (λ (n : ℕ). cond (eqb n 2) (at_newest (ends true true) a.rx.frames) a.rx.frames) s.storing.wire
        ∙ ap (at_newest (ends true true)) s.storing.frames
        ∙ at_snoc (ends true true) fs (fresh bytes)
        ∙ ap (λ (g : Frame). fs ++ (g ∷ [])) f

all_on : (bs : List ℕ) (b : Bench) (size : ℕ) (fs : List Frame) (bytes : List ℕ) → On size fs bytes b → 60 ≤ length bytes + length bs → length bytes + length bs ≤ 1514
    → room fs + round4 (length bytes + length bs) ≤ size
    → stored (after (map Byte bs ++ (End true true ∷ [])) b) ≡ fs ++ (record { bytes = bytes ++ bs; state = whole } ∷ [])
unfolding after
all_on [] b size fs bytes s long short space = rw append-nil (end_on b size fs bytes s (omega arith) (omega arith))
all_on (v ∷ bs) b size fs bytes s long short space =
    let more : length (bytes ++ (v ∷ [])) ≡ length bytes + 1 = length-append bytes (v ∷ []) in
    rw (append_assoc bytes (v ∷ []) bs)
    at (all_on bs (next (Byte v) b) size fs (bytes ++ (v ∷ [])) (byte-on b size fs bytes s v (omega arith) (omega arith)) (omega arith) (omega arith) (rw more (omega arith)))

pub one-stored : OneGoodFrameIsStored
unfolding after
one-stored b first eight bs t =
    all_on bs (next (Start first eight) b) (rx_room b.adapter) (stored b) first (start-on b first eight bs t) (omega (arith, t.long)) (omega (arith, t.short)) (rw eight t.space)

-- ---- handed up

abbrev hand : Driver → ℕ → List ℕ → Serving
hand d n bytes = record { answer = Ok (answer.Frame n); driver = d; bytes = bytes }

module _ (left : ℕ) (d : Driver) (s s₃ : Adapter) (v rx n : ℕ) (e₁ : access (ReadWord 14) s ≡ step v s) (e₂ : access (ReadWord 8) s ≡ step rx s)
    (fit : unfit v ≡ false) (none : tx_complete v ≡ false) (some : rx_complete v ≡ true) (good : bad rx ≡ false) (count : length_in rx ≡ n)
    (enough : words_in n + 1 ≤ left) (e₃ : access (WriteWord 14 16384) (after_reads (words_in n) s) ≡ step 0 s₃) where
  hands : run (look_talk (suc (suc left)) d) s
      ≡ record { answer = hand d n (take n (bytes_read (words_in n) s)); made = ReadWord 14 ∷ (ReadWord 8 ∷ (replicate (words_in n) (ReadWord 0) ++ (WriteWord 14 16384 ∷ []))); adapter = s₃ }
  unfolding run look_talk fetch_talk
  hands = rw (e₁, fit, none, some, e₂, good, count, le-ltb left (words_in n + 1) enough, reads_law, e₃)

-- both areas by the test that places the bytes
laid_in_lem : (bytes : List ℕ) (s : Areas) → ◌≡◌ {A = Areas} (record { look = in_look bytes s.look; frame = in_frame bytes s.frame }) (laid_in bytes s)
unfolding in_look in_frame
laid_in_lem bytes s = way (leb (length bytes) 256)
  where
    way : (t : Bool) → ◌≡◌ {A = Areas}
        (record { look = cond t (bytes ++ drop (length bytes) s.look) s.look; frame = cond t s.frame (bytes ++ drop (length bytes) s.frame) })
        (cond t (record { look = bytes ++ drop (length bytes) s.look; frame = s.frame }) (record { look = s.look; frame = bytes ++ drop (length bytes) s.frame }))
    way true = refl
    way false = refl

-- a call on an open driver with full areas looks
pub looks : (d : Driver) (areas : Bool) (budget : ℕ) → d.opened ≡ true → areas ≡ true → service_call true areas d budget ≡ look_talk budget d
unfolding service_call
looks d areas budget y g =
    ap (λ (o : Bool). cond (not o) (done (plain (Err NeverOpened) d)) (cond (not areas) (done (plain (Err AreaShort) d)) (look_talk budget d))) y
    ∙ ap (λ (o : Bool). cond (not o) (done (plain (Err AreaShort) d)) (look_talk budget d)) g

module _ (b : Bench) (sound : sound_bench b ≡ true) (bytes : List ℕ) (behind : List Frame) (s : Areas) where
  abbrev a : Adapter
  a = b.adapter

  abbrev f : Frame
  f = record { bytes = bytes; state = whole }

  module _ (budget : ℕ) (h : Waiting bytes behind budget s b) where
    outset : At f behind b.adapter 0 b.adapter
    outset =
        record {
          frames = h.oldest;
          failed = (neither a.rx.receiver.failed a.tx.queue.failed h.no_failure).0;
          read = h.none_read;
          active = h.active;
          window = h.window;
          wire = refl;
          split = refl;
        }

    fit : unfit (status_word b.adapter) ≡ false
    fit =
        ap (λ (n : ℕ). not (eqb n 1) || has 2 (status_word a)) (status-window a.select (flags a) ∙ h.window)
        ∙ status-failed a.select (flags a) ∙ ap (λ (n : ℕ). has 2 n && failure a) h.hides_nothing ∙ h.no_failure

    unreported : tx_complete (status_word b.adapter) ≡ false
    unfolding some
    unreported =
        status-completed a.select (flags a) ∙ ap (λ (n : ℕ). has 4 n && some a.tx.reports.statuses) h.hides_nothing
        ∙ ap some h.none_to_report

    received : rx_complete (status_word b.adapter) ≡ true
    unfolding complete is_coming
    received =
        status_received a.select (flags a) ∙ ap (λ (n : ℕ). has 16 n && complete a.rx.frames) h.hides_nothing ∙ ap complete h.oldest

    read_count : access (ReadWord 8) b.adapter ≡ step (shows whole (length bytes)) b.adapter
    read_count = read-rx a f behind (adapter_of b sound) h.active h.window h.none_read h.oldest

  served_up : (budget : ℕ) → Waiting bytes behind budget s b → serves budget s b
      ≡ record {
        answer = hand b.driver (length bytes) bytes;
        made = ReadWord 14 ∷ (ReadWord 8 ∷ (replicate (words_in (length bytes)) (ReadWord 0) ++ (WriteWord 14 16384 ∷ [])));
        adapter = dropped (after_reads (words_in (length bytes)) b.adapter) (record { bytes = bytes; state = whole }) behind;
      }
  unfolding serves service_call is_coming
  served_up zero h = absurd (omega (arith, h.enough))
  served_up (suc zero) h = absurd (omega (arith, h.enough))
  served_up (suc (suc left)) h =
      let d : Driver = b.driver in
      let fine = whole-fine (length bytes) h.long h.short in
      ap (λ (t : Talk Serving). run t a) (looks b.driver (full s) (suc (suc left)) h.opened h.areas)
      ∙ hands left d a _ (status_word a) (shows whole (length bytes)) (length bytes) (read-status a (adapter_of b sound) h.active) (read_count (suc (suc left)) h) (fit (suc (suc left)) h)
      (unreported (suc (suc left)) h) (received (suc (suc left)) h) fine.0 fine.1 (omega (arith, h.enough))
      (after_all a f behind (outset (suc (suc left)) h) refl h.octets)
      ∙ ap (λ (l : List ℕ). record {
        answer = hand d (length bytes) l;
        made = ReadWord 14 ∷ (ReadWord 8 ∷ (replicate (words_in (length bytes)) (ReadWord 0) ++ (WriteWord 14 16384 ∷ [])));
        adapter = dropped (after_reads (words_in (length bytes)) a) f behind;
      }) (all_read a f behind (outset (suc (suc left)) h) refl h.octets).0

pub one_handed_up : OneGoodFrameIsHandedUp
unfolding said next settle without_oldest
one_handed_up b sound bytes behind budget s h =
    let e = served_up b sound bytes behind s budget h in
    let n : length (ReadWord 14 ∷ (ReadWord 8 ∷ (replicate (words_in (length bytes)) (ReadWord 0) ++ (WriteWord 14 16384 ∷ [])))) ≡ words_in (length bytes) + 3 =
    simp (length-append, length-replicate) (omega arith) in
    record {
      answer =
          ap (λ (R : Ran Serving). serving s R ∷ []) e
          ∙ ap (λ (k : ℕ). served (frame (length bytes) k) bytes (record { look = in_look bytes s.look; frame = in_frame bytes s.frame }) ∷ []) n
          ∙ ap (λ (t : Areas). served (frame (length bytes) (words_in (length bytes) + 3)) bytes t ∷ []) (laid_in_lem bytes s);
      rest = ap (λ (R : Ran Serving). R.adapter.rx.frames) e;
    }
