-- A service hands up the oldest good frame or nothing, and drops no other good frame: by the ways through look, receive, drop and fetch. Assumes nothing.
use Rattle.std.specs.Prelude.{Ok, Err}
use mathlib.Core.Path.{◌≡◌, refl, sym, ap, subst, subst⁻¹, ◌∙◌}
use mathlib.Core.Bool.{Bool, true, false, cond}
use mathlib.Core.List.{List, [], ◌∷◌, ◌++◌}
use Prim.Native.Nat.{ℕ, zero, suc, ◌+◌, ◌*◌, ◌≤◌}
use native.Mathlib.Omega.{arith}
use lib.ListN.{length, take}
use lib.Dec.{eqb, ltb}
use Rattle.refusal.specs.declared.Refusal.TheVariants.{CardUnfit, BudgetShort}
use Rattle.bits.specs.Bits.{has}
use Rattle.bits.proofs.Tests.{both, by_test, of_test, of_cond}
use Rattle.receive_rules.specs.Frame.{Frame, is_coming}
use Rattle.receive_rules.specs.Reading as reading
use Rattle.receive_rules.specs.Reading.{complete, without_oldest}
use Rattle.receive_rules.specs.Sound.{in_order}
use Rattle.receive_rules.proofs.Order.{oldest-sized}
use Rattle.receive_rules.proofs.Facts.{sound-told}
use Rattle.card_rules.specs.Adapter.{Adapter}
use Rattle.card_rules.specs.Update.{with_rx}
use Rattle.card_rules.specs.Room.{rx_room}
use Rattle.card_rules.specs.Status.{flags, status_word}
use Rattle.card_rules.specs.Settle.{settle}
use Rattle.card_rules.specs.Sound.{sound}
use Rattle.card_rules.proofs.Sides.{rx_of_lem, settle-stays}
use Rattle.card_rules.specs.Read.{word_at, after_word}
use Rattle.card_rules.specs.Access.{ReadWord, WriteWord, Step, step, effect, access}
use Rattle.card_rules.proofs.StepEnds.{asleep, awake}
use Rattle.driver_rules.specs.declared.Driver.{Driver}
use Rattle.driver_rules.specs.Registers.{rx_discard, unfit, tx_complete, rx_complete, bad, length_in}
use Rattle.driver_rules.specs.Talk.{Talk, done, order, Ran, run, after_reads, bytes_read}
use Rattle.driver_rules.proofs.Runs.{reads_law}
use Rattle.driver_rules.specs.declared.Item.TheVariants as answer
use Rattle.driver_rules.specs.Items.{Serving, plain, short, report_talk, idle_talk, fetch_talk, words_in}
use Rattle.driver_rules.specs.Service.{look_talk, receive_talk, drop_talk}
use Rattle.runs.proofs.Kept.{access-sound}
use Rattle.frames_carried.specs.Bytes.{octets, holdable}
use Rattle.frames_carried.specs.Brings.{if_good, good, is_whole}
use Rattle.frames_carried.specs.Reads.{offered}
use Rattle.frames_carried.proofs.Still.{Still, Quiet, still_run, is_frame, Nothing, quiet-refused, quiet-report, quiet-idle}
use Rattle.frames_carried.proofs.Good.{Intact, intact_drop, Tails, tail_same, tail_then, tail_drop, holds-first, oldest_of, shows, fine-status, bad-none, one-good, offered-some}
use Rattle.driver_rules.proofs.Status.{status_received, fit-window}
use Rattle.frames_carried.proofs.Fetch.{status-access, discard-access, At, reads, take_pairs}

-- ---- what a service keeps, and what it does

pub record Sane (a : Adapter) : Type 0 where
  pub sound : sound a ≡ true
  pub read : a.rx.receiver.read ≡ 0
  pub failed : a.rx.receiver.failed ≡ false
  pub held : holdable a.rx.frames ≡ true

-- an answer of n bytes hands up n bytes, and no other answer is a frame
pub data Tells (x : Serving) : Type 0 where
  as_frame : x.answer ≡ Ok (answer.Frame (length x.bytes)) → 60 ≤ length x.bytes → Tells x
  as_other : is_frame x.answer ≡ false → Tells x

-- from the adapter a, with the answer x, to b
pub record Carries (a : Adapter) (x : Serving) (b : Adapter) : Type 0 where
  pub carried : good a.rx.frames ≡ offered x.bytes ++ good b.rx.frames
  pub read : b.rx.receiver.read ≡ 0
  pub failed : b.rx.receiver.failed ≡ false
  pub held : holdable b.rx.frames ≡ true
  pub wire : b.rx.receiver.wire ≡ a.rx.receiver.wire
  pub intact : (heard : List ℕ) → Intact heard a.rx.frames → Intact heard b.rx.frames
  pub split : b.config.second ≡ a.config.second
  pub tail : Tails a.rx.frames b.rx.frames
  pub tells : Tells x

abbrev pub Goes : Adapter → Talk Serving → Adapter → Type 0
Goes a t b = Carries a (run t b).answer (run t b).adapter

pub still_carries : (a b : Adapter) (x : Serving) → Sane a → Still a b → Nothing x → Carries a x b
unfolding offered
still_carries a b x s t e =
    record {
      carried = sym (ap good t.frames) ∙ ap (λ (l : List ℕ). offered l ++ good b.rx.frames) (sym e.none);
      read = t.read ∙ s.read;
      failed = t.failed ∙ s.failed;
      held = ap holdable t.frames ∙ s.held;
      wire = t.wire;
      intact = λ heard i. subst⁻¹ (Intact heard) t.frames i;
      split = t.split;
      tail = tail_same a.rx.frames b.rx.frames t.frames;
      tells = as_other e.other;
    }

pub quiet : (t : Talk Serving) → Quiet Nothing t → (a : Adapter) → Sane a → Goes a t a
quiet t k a s = let r = still_run Nothing t k a in still_carries a (run t a).adapter (run t a).answer s r.0 r.1

pub read-status : (a : Adapter) → sound a ≡ true → a.id.active ≡ true → access (ReadWord 14) a ≡ step (status_word a) a
unfolding effect word_at after_word
read-status a s y = awake (ReadWord 14) a y ∙ ap (step (status_word a)) (settle-stays a s)

pub read-rx : (a : Adapter) (f : Frame) (fs : List Frame) → sound a ≡ true → a.id.active ≡ true → a.select.window ≡ 1 → a.rx.receiver.read ≡ 0 → a.rx.frames ≡ f ∷ fs
    → access (ReadWord 8) a ≡ step (shows f.state (length f.bytes)) a
unfolding reading.rx_status
read-rx a f fs s y w r e =
    status-access a y w ∙ ap (step (reading.rx_status a.rx.receiver.read a.rx.frames)) (settle-stays a s)
    ∙ ap (λ (n : ℕ). step (reading.rx_status n a.rx.frames) a) r ∙ ap (λ (l : List Frame). step (reading.rx_status 0 l) a) e

pub sized_of : (a : Adapter) (f : Frame) (fs : List Frame) → sound a ≡ true → a.rx.frames ≡ f ∷ fs → length f.bytes ≤ 1792
sized_of a f fs s e =
    let k = (sound-told (rx_room a) a.rx (rx_of_lem a s)).0 in
    (oldest-sized (eqb a.rx.receiver.wire 2) f fs (subst (λ (l : List Frame). in_order (eqb a.rx.receiver.wire 2) l ≡ true) e k.order)).1

-- the adapter without its oldest frame
abbrev pub dropped : Adapter → Frame → List Frame → Adapter
dropped a f fs = settle (with_rx (without_oldest a.rx (f ∷ fs)) a)

-- the oldest frame has ended
pub record Ended (a : Adapter) (f : Frame) (fs : List Frame) : Type 0 where
  pub sane : Sane a
  pub active : a.id.active ≡ true
  pub window : a.select.window ≡ 1
  pub shape : a.rx.frames ≡ f ∷ fs
  pub over : is_coming f.state ≡ false

-- what is left of what is carried, once the oldest frame of a is dropped from c
pub drops : (a c : Adapter) (f : Frame) (fs : List Frame) (x : Serving) → Sane a → a.rx.frames ≡ f ∷ fs → is_coming f.state ≡ false
    → c.rx.receiver.failed ≡ false → c.rx.receiver.wire ≡ a.rx.receiver.wire → c.config.second ≡ a.config.second
    → if_good f.state f.bytes ≡ offered x.bytes → Tells x → Carries a x (dropped c f fs)
unfolding settle without_oldest good
drops a c f fs x s e over good-now w k g told =
    let h = holds-first f fs (ap holdable (sym e) ∙ s.held) in
    record {
      carried = ap good e ∙ ap (λ (l : List (List ℕ)). l ++ good fs) g;
      read = refl;
      failed = good-now;
      held = h.1;
      wire = ap (λ (b : Bool). cond b 1 c.rx.receiver.wire) over ∙ w;
      intact = λ heard i. intact_drop heard f fs (subst (Intact heard) e i);
      split = k;
      tail = tail_drop a.rx.frames f fs e over;
      tells = told;
    }

-- one after the other
pub carries_then : (a b c : Adapter) (x y : Serving) → Carries a x b → x.bytes ≡ [] → Carries b y c → Carries a y c
unfolding offered
carries_then a b c x y p e q =
    record {
      carried = p.carried ∙ ap (λ (l : List ℕ). offered l ++ good b.rx.frames) e ∙ q.carried;
      read = q.read;
      failed = q.failed;
      held = q.held;
      wire = q.wire ∙ p.wire;
      intact = λ heard i. q.intact heard (p.intact heard i);
      split = q.split ∙ p.split;
      tail = tail_then a.rx.frames b.rx.frames c.rx.frames p.tail q.tail;
      tells = q.tells;
    }

-- ---- a good frame

module _ (a : Adapter) (f : Frame) (fs : List Frame) (h : At f fs a 0 a) (over : is_coming f.state ≡ false) (o : octets f.bytes ≡ true) where
  -- its words are its bytes, and leave it the oldest
  pub all_read : (take (length f.bytes) (bytes_read (words_in (length f.bytes)) a) ≡ f.bytes) × At f fs a (0 + 2 * words_in (length f.bytes)) (after_reads (words_in (length f.bytes)) a)
  all_read =
      let r = reads (words_in (length f.bytes)) f fs a 0 a h over o (omega arith) in
      (ap (take (length f.bytes)) r.bytes ∙ take_pairs f.bytes, r.at)

  pub after_all : access (WriteWord 14 16384) (after_reads (words_in (length f.bytes)) a) ≡ step 0 (dropped (after_reads (words_in (length f.bytes)) a) f fs)
  after_all = let c = all_read.1 in discard-access (after_reads (words_in (length f.bytes)) a) c.active c.window f fs c.failed c.frames

module _ (left : ℕ) (d : Driver) (a : Adapter) (f : Frame) (fs : List Frame) (h : Ended a f fs) where
  abbrev n : ℕ
  n = length f.bytes

  abbrev w : ℕ
  w = words_in (length f.bytes)

  abbrev hands : List ℕ → Talk Serving
  hands bytes = order rx_discard 0 (done (record { answer = Ok (answer.Frame (length f.bytes)); driver = d; bytes = take (length f.bytes) bytes }))

  fetch_carries : is_whole f.state ≡ true → 60 ≤ length f.bytes → length f.bytes ≤ 1514 → Goes a (fetch_talk left d (length f.bytes)) a
  unfolding fetch_talk run
  fetch_carries y l s =
      let outset : At f fs a 0 a = record { frames = h.shape; failed = h.sane.failed; read = h.sane.read; active = h.active; window = h.window; wire = refl; split = refl } in
      let o = (holds-first f fs (ap holdable (sym h.shape) ∙ h.sane.held)).0.bytes in
      let r = all_read a f fs outset h.over o in
      let g : if_good f.state f.bytes ≡ offered (take n (bytes_read w a)) = one-good f.state f.bytes y l s ∙ sym (offered-some f.bytes l) ∙ sym (ap offered r.0) in
      let x : Serving = record { answer = Ok (answer.Frame n); driver = d; bytes = take n (bytes_read w a) } in
      let m : length (take n (bytes_read w a)) ≡ n = ap length r.0 in
      let told : Tells x = as_frame (ap (λ (k : ℕ). Ok (answer.Frame k)) (sym m)) (rw m l) in
      let last : Carries a x (access (WriteWord 14 16384) (after_reads w a)).adapter =
      subst⁻¹ (λ (t : Step). Carries a x t.adapter) (after_all a f fs outset h.over o)
      (drops a (after_reads w a) f fs x h.sane h.shape h.over r.1.failed r.1.wire r.1.split g told) in
      of_cond (λ (t : Talk Serving). Goes a t a) (ltb left (w + 1)) (quiet (done (short d)) (quiet-refused BudgetShort d) a h.sane)
      (subst⁻¹ (λ (R : Ran Serving). Carries a R.answer R.adapter) (reads_law w hands a) last)

-- ---- the turns

told-short : (d : Driver) → Tells (short d)
unfolding is_frame
told-short d = as_other refl

none : {l : List (List ℕ)} → l ≡ [] → l ≡ offered []
unfolding offered
none e = e

pub sane_drop : (a : Adapter) (f : Frame) (fs : List Frame) → Ended a f fs → Sane (dropped a f fs)
unfolding settle without_oldest
sane_drop a f fs h =
    let e = discard-access a h.active h.window f fs h.sane.failed h.shape in
    record {
      sound = ap (λ (t : Step). sound t.adapter) (sym e) ∙ access-sound (WriteWord 14 16384) a h.sane.sound;
      read = refl;
      failed = h.sane.failed;
      held = (holds-first f fs (ap holdable (sym h.shape) ∙ h.sane.held)).1;
    }

mutual
  unfolding look_talk receive_talk drop_talk run

  pub look_carries : (n : ℕ) (d : Driver) (a : Adapter) → Sane a → Goes a (look_talk n d) a
  look_carries zero d a s = quiet (done (short d)) (quiet-refused BudgetShort d) a s
  look_carries (suc left) d a s =
      let rest : ℕ → Talk Serving =
      λ status. cond (unfit status) (done (plain (Err CardUnfit) d)) (cond (tx_complete status) (report_talk left d) (cond (rx_complete status) (receive_talk left d) (idle_talk left d))) in
      by_test a.id.active
      (λ y.
      subst⁻¹ (λ (t : Step). Goes a (rest t.value) t.adapter) (read-status a s.sound y)
      (of_test (λ (t : Talk Serving). Goes a t a) (unfit (status_word a)) (λ _. quiet (done (plain (Err CardUnfit) d)) (quiet-refused CardUnfit d) a s)
      (λ fit. of_test (λ (t : Talk Serving). Goes a t a) (tx_complete (status_word a)) (λ _. quiet (report_talk left d) (quiet-report left d) a s)
      (λ _. of_test (λ (t : Talk Serving). Goes a t a) (rx_complete (status_word a))
      (λ some. receive_carries left d a s y (fit-window a.select (flags a) fit) (both (has 16 a.select.zero) (complete a.rx.frames) (sym (status_received a.select (flags a)) ∙ some)).1)
      (λ _. quiet (idle_talk left d) (quiet-idle left d) a s)))))
      (λ n. subst⁻¹ (λ (t : Step). Goes a (rest t.value) t.adapter) (asleep (ReadWord 14) a n) (quiet (done (plain (Err CardUnfit) d)) (quiet-refused CardUnfit d) a s))

  receive_carries : (n : ℕ) (d : Driver) (a : Adapter) → Sane a → a.id.active ≡ true → a.select.window ≡ 1 → complete a.rx.frames ≡ true → Goes a (receive_talk n d) a
  receive_carries zero d a s y w some = quiet (done (short d)) (quiet-refused BudgetShort d) a s
  receive_carries (suc left) d a s y w some =
      let o = oldest_of a.rx.frames some in
      let f : Frame = o.first in
      let fs : List Frame = o.behind in
      let v : ℕ = shows f.state (length f.bytes) in
      let h : Ended a f fs = record { sane = s; active = y; window = w; shape = o.shape; over = o.over } in
      let size = sized_of a f fs s.sound o.shape in
      let code = (holds-first f fs (ap holdable (sym o.shape) ∙ s.held)).0.code in
      subst⁻¹ (λ (t : Step). Goes a (cond (bad t.value) (drop_talk left d) (fetch_talk left d (length_in t.value))) t.adapter) (read-rx a f fs s.sound y w s.read o.shape)
      (of_test (λ (t : Talk Serving). Goes a t a) (bad v)
      (λ b. drop_carries left d a f fs h (bad-none f.state f.bytes size b))
      (λ b.
      let g = fine-status f.state (length f.bytes) o.over code size b in
      subst⁻¹ (λ (k : ℕ). Goes a (fetch_talk left d k) a) g.count (fetch_carries left d a f fs h g.whole g.long g.short)))

  drop_carries : (n : ℕ) (d : Driver) (a : Adapter) (f : Frame) (fs : List Frame) → Ended a f fs → if_good f.state f.bytes ≡ [] → Goes a (drop_talk n d) a
  drop_carries zero d a f fs h g = quiet (done (short d)) (quiet-refused BudgetShort d) a h.sane
  drop_carries (suc left) d a f fs h g =
      let b : Adapter = dropped a f fs in
      let p : Carries a (short d) b = drops a a f fs (short d) h.sane h.shape h.over h.sane.failed refl refl (none g) (told-short d) in
      subst⁻¹ (λ (t : Step). Goes a (look_talk left d) t.adapter) (discard-access a h.active h.window f fs h.sane.failed h.shape)
      (carries_then a b (run (look_talk left d) b).adapter (short d) (run (look_talk left d) b).answer p refl (look_carries left d b (sane_drop a f fs h)))
