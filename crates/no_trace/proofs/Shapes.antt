-- An open card at rest, and the same while a frame comes, by their shapes: all but the receive side is equal. Assumes nothing.
use Rattle.std.specs.Prelude.{Ok}
use mathlib.Core.Path.{◌≡◌, refl, ap, ◌∙◌}
use mathlib.Core.Bool.{Bool, true, false, not, ◌&&◌, ◌||◌}
use mathlib.Core.List.{List, [], ◌∷◌}
use Prim.Native.Nat.{ℕ, suc, ◌≤◌, ◌+◌, ◌*◌, ◌/◌, ◌%◌}
use native.Mathlib.Omega.{arith}
use borrow.Author.Tests.{eq-eqb}
use lib.ListN.{length}
use lib.Dec.{leb}
use Rattle.receive_rules.specs.Frame.{State, coming, damaged, Frame, Rx, is_coming}
use Rattle.receive_rules.specs.Early.{early_flag, told_flag}
use Rattle.receive_rules.specs.Reading as reading
use Rattle.receive_rules.specs.Count.{unread, encoded}
use Rattle.receive_rules.specs.Reading.{rx_status, marks, complete, without_oldest}
use Rattle.transmit_rules.specs.Queue as queue
use Rattle.transmit_rules.specs.Reports.{with_sender, with_statuses, with_available}
use Rattle.transmit_rules.specs.Outcome.{some, due}
use Rattle.transmit_rules.specs.Tx.{on_reports}
use Rattle.card_rules.specs.declared.Flags.{Flags}
use Rattle.card_rules.specs.Adapter.{Adapter}
use Rattle.card_rules.specs.Update.{with_select, with_rx, with_tx}
use Rattle.card_rules.specs.Room.{tx_room}
use Rattle.card_rules.specs.Status.{status_word, interrupting}
use Rattle.card_rules.specs.Settle.{settle}
use Rattle.card_rules.specs.Command.{acknowledge, act, command, commanded}
use Rattle.card_rules.specs.Read.{window1, word_at, after_word}
use Rattle.card_rules.specs.Write.{write_word}
use Rattle.card_rules.specs.Access.{ReadWord, WriteWord, step, effect, access}
use Rattle.card_rules.proofs.Active.{woken}
use Rattle.driver_rules.specs.declared.Driver.{Driver}
use Rattle.driver_rules.specs.Registers.{unfit, tx_complete, rx_complete, bad}
use Rattle.driver_rules.specs.Talk.{Ran, run, extended}
use Rattle.driver_rules.specs.declared.Item.TheVariants.{Idle}
use Rattle.driver_rules.specs.Items.{Serving, plain, short, idle_talk}
use Rattle.driver_rules.specs.Service.{look_talk}
use Rattle.runs.proofs.Status.{shown, seen-failed, seen-completed, seen_received}

-- ---- the shapes

-- the receive side: no failure, nothing read of the oldest frame
abbrev pub side : Adapter → Bool → Bool → ℕ → List Frame → Rx
side s e t w fs =
    record {
      receiver = record { on = s.rx.receiver.on; failed = false; early = e; told = t; threshold = s.rx.receiver.threshold; read = 0; wire = w };
      frames = fs;
    }

-- an open card that has nothing to report and no failure, with this receive side
abbrev pub shape : Adapter → Rx → Adapter
shape s x =
    woken true (with_select (shown s.select.filter) (with_rx x (with_tx
    (record {
      queue = record { failed = false; packets = s.tx.queue.packets; part = s.tx.queue.part };
      reports = with_statuses [] s.tx.reports;
    }) s)))

abbrev pub frame : List ℕ → State → List Frame
frame bs st = record { bytes = bs; state = st } ∷ []

-- at rest; while the card ignores a frame; while it stores one; with a damaged frame stored
abbrev pub calm : Adapter → Adapter
calm s = shape s (side s false false 0 [])

abbrev pub deaf : Adapter → Adapter
deaf s = shape s (side s false false 1 [])

abbrev pub hearing : Adapter → Bool → Bool → List ℕ → Bool → Adapter
hearing s e t bs o = shape s (side s e t 2 (frame bs (coming o)))

abbrev pub ended : Adapter → List ℕ → ℕ → Adapter
ended s bs k = shape s (side s false false 0 (frame bs (damaged k)))

-- ---- settle

abbrev pub due_in : Adapter → Bool
due_in s = due (queue.free (tx_room s) s.tx.queue) s.tx.reports.sender

-- TX Available is set where it is due
abbrev pub Settled : Adapter → Type 0
Settled s = (due_in s || s.tx.reports.sender.available) ≡ s.tx.reports.sender.available

-- the same with TX Available as v
abbrev available : Adapter → Rx → Bool → Adapter
available s x v =
    let a = shape s x in
    with_tx (on_reports (λ r. with_sender (with_available v r.sender) r) a.tx) a

pub settle-empty : (s : Adapter) → Settled s → (e t : Bool) (w : ℕ) → settle (shape s (side s e t w [])) ≡ shape s (side s false false w [])
unfolding settle interrupting early_flag told_flag queue.free
settle-empty s h e t w = ap (available s (side s false false w [])) h

pub settle-damaged : (s : Adapter) → Settled s → (e t : Bool) (w k : ℕ) (bs : List ℕ) →
    settle (shape s (side s e t w (frame bs (damaged k)))) ≡ shape s (side s false false w (frame bs (damaged k)))
unfolding settle interrupting early_flag told_flag queue.free is_coming
settle-damaged s h e t w k bs = ap (available s (side s false false w (frame bs (damaged k)))) h

abbrev pub reached : Adapter → Bool → List ℕ → Bool
reached s t bs = leb s.rx.receiver.threshold (length bs) && not t

pub settle-coming : (s : Adapter) → Settled s → (e t : Bool) (w : ℕ) (bs : List ℕ) (o : Bool) →
    settle (shape s (side s e t w (frame bs (coming o)))) ≡ shape s (side s (reached s t bs || e) (reached s t bs || t) w (frame bs (coming o)))
unfolding settle interrupting early_flag told_flag queue.free is_coming
settle-coming s h e t w bs o = ap (available s (side s (reached s t bs || e) (reached s t bs || t) w (frame bs (coming o)))) h

-- ---- the accesses of a service

-- what the Status word of a shape tells: no failure, no TX status, and RX Complete as given
pub record Tells (c : Bool) (w : ℕ) : Type 0 where
  pub fit : unfit w ≡ false
  pub none : tx_complete w ≡ false
  pub some-frame : rx_complete w ≡ c

tells : (s : Adapter) (x : Rx) (c : Bool) → x.receiver.failed ≡ false → complete x.frames ≡ c → Tells c (status_word (shape s x))
unfolding some
tells s x c f e =
    let g : Flags = record { latch = s.lines.latch; failed = x.receiver.failed || false; completed = false; available = s.tx.reports.sender.available; received = complete x.frames; early = x.receiver.early; requested = s.lines.requested } in
    record {
      fit = seen-failed s.select.filter g ∙ ap (λ (b : Bool). b || false) f;
      none = seen-completed s.select.filter g;
      some-frame = seen_received s.select.filter g ∙ e;
    }

-- a read of Status settles the card
status-read : (s : Adapter) (x : Rx) → access (ReadWord 14) (shape s x) ≡ step (status_word (shape s x)) (settle (shape s x))
unfolding access effect word_at after_word
status-read s x = refl

-- a read that shows nothing stored, and leaves b
pub record Quiet (a b : Adapter) : Type 0 where
  pub word : ℕ
  pub reads : access (ReadWord 14) a ≡ step word b
  pub shows : Tells false word

pub quiet_calm : (s : Adapter) → Settled s → Quiet (calm s) (calm s)
unfolding complete
quiet_calm s h =
    record { word = status_word (calm s); reads = status-read s (side s false false 0 []) ∙ ap (step (status_word (calm s))) (settle-empty s h false false 0); shows = tells s (side s false false 0 []) false refl refl }

pub quiet_deaf : (s : Adapter) → Settled s → Quiet (deaf s) (deaf s)
unfolding complete
quiet_deaf s h =
    record { word = status_word (deaf s); reads = status-read s (side s false false 1 []) ∙ ap (step (status_word (deaf s))) (settle-empty s h false false 1); shows = tells s (side s false false 1 []) false refl refl }

-- a read settles RX Early too
abbrev pub settled_hearing : Adapter → Bool → Bool → List ℕ → Bool → Adapter
settled_hearing s e t bs o = hearing s (reached s t bs || e) (reached s t bs || t) bs o

pub quiet_hearing : (s : Adapter) → Settled s → (e t : Bool) (bs : List ℕ) (o : Bool) → Quiet (hearing s e t bs o) (settled_hearing s e t bs o)
unfolding complete is_coming
quiet_hearing s h e t bs o =
    let x = side s e t 2 (frame bs (coming o)) in
    record { word = status_word (shape s x); reads = status-read s x ∙ ap (step (status_word (shape s x))) (settle-coming s h e t 2 bs o); shows = tells s x false refl refl }

-- with a damaged frame stored
pub read-ended : (s : Adapter) → Settled s → (bs : List ℕ) (k : ℕ) → access (ReadWord 14) (ended s bs k) ≡ step (status_word (ended s bs k)) (ended s bs k)
read-ended s h bs k = status-read s (side s false false 0 (frame bs (damaged k))) ∙ ap (step (status_word (ended s bs k))) (settle-damaged s h false false 0 k bs)

pub tells-ended : (s : Adapter) (bs : List ℕ) (k : ℕ) → Tells true (status_word (ended s bs k))
unfolding complete is_coming
tells-ended s bs k = tells s (side s false false 0 (frame bs (damaged k))) true refl refl

-- RX Status of it, and RX Discard
pub rx-read : (s : Adapter) → Settled s → (bs : List ℕ) (k : ℕ) →
    access (ReadWord 8) (ended s bs k) ≡ step (16384 + k * 2048 + encoded (unread (length bs) 0)) (ended s bs k)
unfolding access effect word_at after_word window1 rx_status marks
rx-read s h bs k = ap (step (16384 + k * 2048 + encoded (unread (length bs) 0))) (settle-damaged s h false false 0 k bs)

pub discards : (s : Adapter) → Settled s → (bs : List ℕ) (k : ℕ) → access (WriteWord 14 16384) (ended s bs k) ≡ step 0 (calm s)
unfolding access effect write_word commanded command reading.discard without_oldest is_coming
discards s h bs k = ap (step 0) (settle-empty s h false false 0)

-- the card after the acknowledgement of 69h
unfoldable pub acked : Adapter → Adapter
acked s = settle (acknowledge 105 (calm s))

pub ack_calm : (s : Adapter) → access (WriteWord 14 26729) (calm s) ≡ step 0 (calm (acked s))
unfolding acked access effect write_word commanded command act acknowledge settle interrupting early_flag told_flag queue.free
ack_calm s = refl

pub ack_deaf : (s : Adapter) → access (WriteWord 14 26729) (deaf s) ≡ step 0 (deaf (acked s))
unfolding acked access effect write_word commanded command act acknowledge settle interrupting early_flag told_flag queue.free
ack_deaf s = refl

pub ack_hearing : (s : Adapter) (e t : Bool) (bs : List ℕ) (o : Bool) →
    access (WriteWord 14 26729) (hearing s e t bs o) ≡ step 0 (hearing (acked s) (reached s t bs || false) (reached s t bs || t) bs o)
unfolding acked access effect write_word commanded command act acknowledge settle interrupting early_flag told_flag queue.free is_coming
ack_hearing s e t bs o = refl

or_twice : (b c : Bool) → (b || (b || c)) ≡ (b || c)
or_twice true c = refl
or_twice false c = refl

pub acked_settled : (s : Adapter) → Settled (acked s)
unfolding acked acknowledge settle queue.free due
acked_settled s = or_twice (due_in (acknowledge 105 (calm s))) (acknowledge 105 (calm s)).tx.reports.sender.available

-- ---- looks

abbrev Short : Driver → Adapter → Ran Serving
Short d a = record { answer = short d; made = ReadWord 14 ∷ []; adapter = a }

abbrev pub Idles : Driver → Adapter → Ran Serving
Idles d a = record { answer = plain (Ok Idle) d; made = ReadWord 14 ∷ (WriteWord 14 26729 ∷ []); adapter = a }

pub look-short : (d : Driver) (a b : Adapter) → Quiet a b → run (look_talk 1 d) a ≡ Short d b
unfolding run look_talk idle_talk
look-short d a b q = rw (q.reads, q.shows.fit, q.shows.none, q.shows.some-frame)

pub look-idle : (n : ℕ) (d : Driver) (a b c : Adapter) → Quiet a b → access (WriteWord 14 26729) b ≡ step 0 c → run (look_talk (suc (suc n)) d) a ≡ Idles d c
unfolding run look_talk idle_talk
look-idle n d a b c q ack = rw (q.reads, q.shows.fit, q.shows.none, q.shows.some-frame, ack)

bad-word : (k n : ℕ) → k ≤ 5 → bad (16384 + k * 2048 + encoded (unread n 0)) ≡ true
bad-word k n h = rw (eq-eqb ((16384 + k * 2048 + encoded (unread n 0)) / 16384 % 2) 1 (omega arith))

look-drop : (n : ℕ) (d : Driver) (a b : Adapter) (w x : ℕ) → access (ReadWord 14) a ≡ step w a → Tells true w → access (ReadWord 8) a ≡ step x a → bad x ≡ true →
    access (WriteWord 14 16384) a ≡ step 0 b →
    run (look_talk (suc (suc (suc n))) d) a ≡ extended (ReadWord 14 ∷ (ReadWord 8 ∷ (WriteWord 14 16384 ∷ []))) (run (look_talk n d) b)
unfolding run look_talk
look-drop n d a b w x read t status is_bad drops = rw (read, t.fit, t.none, t.some-frame, status, is_bad, drops)

pub calm-idle : (s : Adapter) → Settled s → (d : Driver) (n : ℕ) → run (look_talk (suc (suc n)) d) (calm s) ≡ Idles d (calm (acked s))
calm-idle s h d n = look-idle n d (calm s) (calm s) (calm (acked s)) (quiet_calm s h) (ack_calm s)

-- The damaged frame is dropped, and the pass looks again: three accesses more.
pub ended-idle : (s : Adapter) → Settled s → (d : Driver) (n k : ℕ) (bs : List ℕ) → k ≤ 5 →
    run (look_talk (suc (suc (suc (suc (suc n))))) d) (ended s bs k)
    ≡ extended (ReadWord 14 ∷ (ReadWord 8 ∷ (WriteWord 14 16384 ∷ []))) (Idles d (calm (acked s)))
ended-idle s h d n k bs small =
    look-drop (suc (suc n)) d (ended s bs k) (calm s) _ _ (read-ended s h bs k) (tells-ended s bs k) (rx-read s h bs k) (bad-word k (length bs) small) (discards s h bs k)
    ∙ ap (extended (ReadWord 14 ∷ (ReadWord 8 ∷ (WriteWord 14 16384 ∷ [])))) (calm-idle s h d n)
