-- One service with areas and budget enough takes one of what waits: a status, or else, once the bad frames before it are dropped, a good frame. Assumes nothing.
use Rattle.std.specs.Prelude.{Ok, Err}
use mathlib.Core.Path.{◌≡◌, refl, sym, ap, subst⁻¹, ◌∙◌}
use mathlib.Core.Bool.{Bool, true, false, cond, not, ◌&&◌, ◌||◌}
use mathlib.Core.List.{List, [], ◌∷◌}
use Prim.Native.Nat.{ℕ, zero, suc, ◌+◌, ◌-◌, ◌≤◌}
use native.Mathlib.Omega.{arith}
use borrow.Author.Tests.{ltb-true, not-false}
use lib.ListN.{length, take, length-append}
use lib.Dec.{ltb, eqb}
use Rattle.refusal.specs.declared.Refusal.TheVariants.{CardUnfit}
use Rattle.bits.proofs.Tests.{both, never, of_cond, of_test}
use Rattle.receive_rules.specs.Frame.{Frame, is_coming}
use Rattle.receive_rules.specs.Reading.{complete, after_read, without_oldest}
use Rattle.receive_rules.specs.Sound.{sized, in_order}
use Rattle.receive_rules.proofs.Facts.{sound-told}
use Rattle.transmit_rules.specs.Outcome.{some, rest, enable}
use Rattle.card_rules.specs.declared.Select.{Select}
use Rattle.card_rules.specs.Adapter.{Adapter}
use Rattle.card_rules.specs.Update.{with_rx}
use Rattle.card_rules.specs.Room.{rx_room}
use Rattle.card_rules.specs.Status.{flags, status_of, status_word}
use Rattle.card_rules.specs.Settle.{settle}
use Rattle.card_rules.proofs.Sides.{rx_of_lem}
use Rattle.card_rules.specs.Command.{act, command, commanded, acknowledge}
use Rattle.card_rules.specs.Read.{after_word}
use Rattle.card_rules.specs.Write.{covers_high, write, write1, write_word, write_byte}
use Rattle.card_rules.specs.Access.{Access, ReadWord, ReadByte, WriteWord, WriteByte, Step, effect, access}
use Rattle.card_rules.proofs.StepEnds.{awake}
use Rattle.driver_rules.specs.declared.Driver.{Driver}
use Rattle.driver_rules.specs.Registers.{rx_discard, unfit, tx_complete, rx_complete, bad, length_in}
use Rattle.driver_rules.specs.Talk as talk
use Rattle.driver_rules.specs.Talk.{Talk, done, order, Ran, run, after_reads}
use Rattle.driver_rules.proofs.Runs.{reads_law}
use Rattle.driver_rules.specs.declared.Item.TheVariants as answer
use Rattle.driver_rules.specs.Items.{Serving, plain, is_error, report_talk, idle_talk, fetch_talk, words_in}
use Rattle.driver_rules.specs.Service.{look_talk, receive_talk, drop_talk}
use Rattle.runs.proofs.Status.{shown, seen-failed, seen-completed, seen_received}
use Rattle.frames_carried.specs.Bytes.{holdable}
use Rattle.frames_carried.specs.Brings.{if_good, good, is_whole}
use Rattle.frames_carried.specs.Carried.{needed}
use Rattle.frames_carried.proofs.Still.{still_run, Nothing, quiet-report, quiet-idle}
use Rattle.frames_carried.proofs.Good.{coming-none, oldest_of, holds-first, shows, fine-status, bad-none, one-good}
use Rattle.frames_carried.proofs.Fetch.{At, discard-access}
use Rattle.frames_carried.proofs.Service.{Sane, read-status, read-rx, sized_of, dropped, Ended, after_all, sane_drop}

-- ---- what a service leaves beside the receive side

record Beside (a b : Adapter) : Type 0 where
  active : b.id.active ≡ a.id.active
  select : b.select ≡ a.select
  failed : b.tx.queue.failed ≡ a.tx.queue.failed
  statuses : b.tx.reports.statuses ≡ a.tx.reports.statuses

same : (a : Adapter) → Beside a a
same a = record { active = refl; select = refl; failed = refl; statuses = refl }

beside_then : {a b c : Adapter} → Beside a b → Beside b c → Beside a c
beside_then p q = record { active = q.active ∙ p.active; select = q.select ∙ p.select; failed = q.failed ∙ p.failed; statuses = q.statuses ∙ p.statuses }

beside_access : (x : Access) (a : Adapter) → Beside a (effect x a).adapter → Beside a (access x a).adapter
unfolding access settle
beside_access x a s =
    of_cond (λ (t : Step). Beside a t.adapter) a.id.active (record { active = s.active; select = s.select; failed = s.failed; statuses = s.statuses }) (same a)

beside_told : (a : Adapter) → Beside a (access (ReadByte 11) a).adapter
unfolding effect
beside_told a = beside_access (ReadByte 11) a (same a)

beside_enable : (a : Adapter) → Beside a (access (WriteWord 14 18432) a).adapter
unfolding effect write_word commanded command act enable
beside_enable a = beside_access (WriteWord 14 18432) a (of_cond (Beside a) (eqb a.select.window 0) {y = command 9 0 a} (same a) (record { active = refl; select = refl; failed = refl; statuses = refl }))

beside_ack : (a : Adapter) → Beside a (access (WriteWord 14 26729) a).adapter
unfolding effect write_word commanded command act acknowledge
beside_ack a = beside_access (WriteWord 14 26729) a (of_cond (Beside a) (eqb a.select.window 0) {y = command 13 105 a} (same a) (record { active = refl; select = refl; failed = refl; statuses = refl }))

beside_data : (a : Adapter) → Beside a (access (ReadWord 0) a).adapter
unfolding effect after_word
beside_data a = beside_access (ReadWord 0) a (of_cond (Beside a) (eqb a.select.window 1) {x = with_rx (after_read a.rx) a} (record { active = refl; select = refl; failed = refl; statuses = refl }) (same a))

beside_reads : (w : ℕ) (a : Adapter) → Beside a (after_reads w a)
unfolding talk.after
beside_reads zero a = same a
beside_reads (suc w) a = beside_then (beside_data a) (beside_reads w (access (ReadWord 0) a).adapter)

beside_drop : (a : Adapter) (f : Frame) (fs : List Frame) → Beside a (dropped a f fs)
unfolding settle
beside_drop a f fs = record { active = refl; select = refl; failed = refl; statuses = refl }

beside_idle : (left : ℕ) (d : Driver) (a : Adapter) → Beside a (run (idle_talk left d) a).adapter
unfolding idle_talk run
beside_idle zero d a = same a
beside_idle (suc left) d a = beside_ack a

-- a report takes the oldest status
record Popped (a b : Adapter) : Type 0 where
  active : b.id.active ≡ a.id.active
  failed : b.tx.queue.failed ≡ a.tx.queue.failed
  statuses : b.tx.reports.statuses ≡ rest a.tx.reports.statuses

pops : (a : Adapter) → a.id.active ≡ true → a.select.window ≡ 1 → Popped a (access (WriteByte 11 0) a).adapter
unfolding effect write_byte write write1 covers_high settle
pops a y w = subst⁻¹ (λ (t : Step). Popped a t.adapter) (awake (WriteByte 11 0) a y) (rw w (record { active = refl; failed = refl; statuses = refl }))

report-pops : (left : ℕ) (d : Driver) (a : Adapter) → 4 ≤ left → a.id.active ≡ true → a.select.window ≡ 1 → Popped a (run (report_talk left d) a).adapter
unfolding run report_talk
report-pops left d a more y w =
    let b : Adapter = (access (ReadByte 11) a).adapter in
    let c : Adapter = (access (WriteByte 11 0) b).adapter in
    let e : Adapter = (access (ReadByte 11) c).adapter in
    let p = beside_told a in
    let q = pops b (p.active ∙ y) (ap (λ (v : Select). v.window) p.select ∙ w) in
    let popped : (x : Adapter) → Beside c x → Popped a x =
    λ x s. record { active = s.active ∙ q.active ∙ p.active; failed = s.failed ∙ q.failed ∙ p.failed; statuses = s.statuses ∙ q.statuses ∙ ap rest p.statuses } in
    of_test (λ (t : Talk Serving). Popped a (run t a).adapter) (ltb left 4) (λ l. absurd (omega (arith, ltb-true left 4 l)))
    (λ _. of_cond (λ (t : Talk Serving). Popped a (run t e).adapter) ((d.error || is_error (access (ReadByte 11) a).value) && eqb (access (ReadByte 11) c).value 0)
    (popped _ (beside_then (beside_told c) (beside_enable e))) (popped e (beside_told c)))

-- ---- what waits for services

abbrev pub waits : Adapter → ℕ
waits a = length a.tx.reports.statuses + length (good a.rx.frames)

-- open's window and masks on an active card without a failure, nothing of whose oldest frame is read
pub record Fit (a : Adapter) : Type 0 where
  pub sane : Sane a
  pub active : a.id.active ≡ true
  pub select : a.select ≡ shown a.select.filter
  pub failed : a.tx.queue.failed ≡ false

-- from a to b: no frame more, and one less of what waits
pub record Less (a b : Adapter) : Type 0 where
  pub active : b.id.active ≡ true
  pub failed : b.tx.queue.failed ≡ false
  pub fewer : length b.rx.frames ≤ length a.rx.frames
  pub falls : waits b ≤ waits a - 1

-- what Status shows of such a card
module _ (a : Adapter) (h : Fit a) where
  fits-window : a.select.window ≡ 1
  fits-window = ap (λ (v : Select). v.window) h.select

  sees_fit : unfit (status_word a) ≡ false
  sees_fit =
      ap (λ (v : Select). unfit (status_of v (flags a))) h.select ∙ seen-failed a.select.filter (flags a)
      ∙ ap (λ (b : Bool). b || a.tx.queue.failed) h.sane.failed ∙ h.failed

  sees_statuses : tx_complete (status_word a) ≡ some a.tx.reports.statuses
  sees_statuses = ap (λ (v : Select). tx_complete (status_of v (flags a))) h.select ∙ seen-completed a.select.filter (flags a)

  sees_frames : rx_complete (status_word a) ≡ complete a.rx.frames
  sees_frames = ap (λ (v : Select). rx_complete (status_of v (flags a))) h.select ∙ seen_received a.select.filter (flags a)

-- ---- a report

rest-less : (xs : List ℕ) → some xs ≡ true → length (rest xs) + 1 ≤ length xs
unfolding some rest
rest-less [] e = never e
rest-less (x ∷ xs) e = omega arith

report-less : (left : ℕ) (d : Driver) (a : Adapter) → Fit a → some a.tx.reports.statuses ≡ true → 4 ≤ left → Less a (run (report_talk left d) a).adapter
report-less left d a h y more =
    let b : Adapter = (run (report_talk left d) a).adapter in
    let p = report-pops left d a more h.active (fits-window a h) in
    let s = (still_run Nothing (report_talk left d) (quiet-report left d) a).0 in
    let m : length b.rx.frames ≡ length a.rx.frames = ap length s.frames in
    let g : length (good b.rx.frames) ≡ length (good a.rx.frames) = ap (λ (l : List Frame). length (good l)) s.frames in
    let t : length b.tx.reports.statuses ≡ length (rest a.tx.reports.statuses) = ap length p.statuses in
    record {
      active = p.active ∙ h.active;
      failed = p.failed ∙ h.failed;
      fewer = omega arith;
      falls = omega (arith, rest-less a.tx.reports.statuses y);
    }

-- ---- idle: nothing waits

none-some : (xs : List ℕ) → some xs ≡ false → length xs ≡ 0
unfolding some
none-some [] e = refl
none-some (x ∷ xs) e = never (sym e)

-- a frame that is coming is the newest, and none is before it
coming_alone : (o : Bool) (fs : List Frame) → in_order o fs ≡ true → complete fs ≡ false → good fs ≡ []
unfolding in_order complete good
coming_alone o [] i e = refl
coming_alone o (f ∷ []) i e = rw (coming-none f.state f.bytes (not-false (is_coming f.state) e))
coming_alone o (f ∷ g ∷ fs) i e =
    never (sym (sym (both (sized (length f.bytes)) (not (is_coming f.state)) (both _ (in_order o (g ∷ fs)) i).0).1 ∙ e))

idle-less : (left : ℕ) (d : Driver) (a : Adapter) → Fit a → some a.tx.reports.statuses ≡ false → complete a.rx.frames ≡ false → Less a (run (idle_talk left d) a).adapter
idle-less left d a h n e =
    let b : Adapter = (run (idle_talk left d) a).adapter in
    let p = beside_idle left d a in
    let s = (still_run Nothing (idle_talk left d) (quiet-idle left d) a).0 in
    let m : length b.rx.frames ≡ length a.rx.frames = ap length s.frames in
    let k = (sound-told (rx_room a) a.rx (rx_of_lem a h.sane.sound)).0 in
    let g : length (good b.rx.frames) ≡ 0 = ap (λ (l : List Frame). length (good l)) s.frames ∙ ap length (coming_alone (eqb a.rx.receiver.wire 2) a.rx.frames k.order e) in
    let t : length b.tx.reports.statuses ≡ 0 = ap length p.statuses ∙ none-some a.tx.reports.statuses n in
    record { active = p.active ∙ h.active; failed = p.failed ∙ h.failed; fewer = omega arith; falls = omega arith }

-- ---- a good frame, and a bad one

good-first : (a : Adapter) (f : Frame) (fs : List Frame) → a.rx.frames ≡ f ∷ fs → length (good a.rx.frames) ≡ length (if_good f.state f.bytes) + length (good fs)
unfolding good
good-first a f fs e = ap (λ (l : List Frame). length (good l)) e ∙ length-append (if_good f.state f.bytes) (good fs)

-- the oldest frame of a is dropped from c
drop-less : (a c : Adapter) (f : Frame) (fs : List Frame) → Fit a → a.rx.frames ≡ f ∷ fs → Beside a c → length (if_good f.state f.bytes) ≡ 1 → Less a (dropped c f fs)
unfolding settle without_oldest
drop-less a c f fs h e s one =
    let b : Adapter = dropped c f fs in
    let p = beside_then s (beside_drop c f fs) in
    let m : length a.rx.frames ≡ suc (length fs) = ap length e in
    let t : length b.tx.reports.statuses ≡ length a.tx.reports.statuses = ap length p.statuses in
    record { active = p.active ∙ h.active; failed = p.failed ∙ h.failed; fewer = omega arith; falls = omega (arith, good-first a f fs e) }

fetch_less : (left : ℕ) (d : Driver) (a : Adapter) (f : Frame) (fs : List Frame) → Fit a → Ended a f fs → is_whole f.state ≡ true → 60 ≤ length f.bytes → length f.bytes ≤ 1514
    → 758 ≤ left → Less a (run (fetch_talk left d (length f.bytes)) a).adapter
unfolding fetch_talk run
fetch_less left d a f fs h o y l s more =
    let w : ℕ = words_in (length f.bytes) in
    let outset : At f fs a 0 a = record { frames = o.shape; failed = h.sane.failed; read = h.sane.read; active = h.active; window = o.window; wire = refl; split = refl } in
    let k = (holds-first f fs (ap holdable (sym o.shape) ∙ h.sane.held)).0.bytes in
    let one : length (if_good f.state f.bytes) ≡ 1 = ap length (one-good f.state f.bytes y l s) in
    let last : Less a (access (WriteWord 14 16384) (after_reads w a)).adapter =
    subst⁻¹ (λ (t : Step). Less a t.adapter) (after_all a f fs outset o.over k) (drop-less a (after_reads w a) f fs h o.shape (beside_reads w a) one) in
    of_test (λ (t : Talk Serving). Less a (run t a).adapter) (ltb left (w + 1)) (λ t. absurd (omega (arith, ltb-true left (w + 1) t)))
    (λ _. subst⁻¹ (λ (R : Ran Serving). Less a R.adapter)
    (reads_law w (λ bytes. order rx_discard 0 (done (record { answer = Ok (answer.Frame (length f.bytes)); driver = d; bytes = take (length f.bytes) bytes }))) a) last)

fit-drop : (a : Adapter) (f : Frame) (fs : List Frame) → Fit a → Ended a f fs → Fit (dropped a f fs)
fit-drop a f fs h o =
    let p = beside_drop a f fs in
    record {
      sane = sane_drop a f fs o;
      active = p.active ∙ h.active;
      select = p.select ∙ h.select ∙ ap (λ (v : Select). shown v.filter) (sym p.select);
      failed = p.failed ∙ h.failed;
    }

dropped-frames : (a : Adapter) (f : Frame) (fs : List Frame) → (dropped a f fs).rx.frames ≡ fs
unfolding settle without_oldest
dropped-frames a f fs = refl

-- what goes on from there
less_then : (a b : Adapter) (f : Frame) (fs : List Frame) → a.rx.frames ≡ f ∷ fs → if_good f.state f.bytes ≡ [] → Less (dropped a f fs) b → Less a b
unfolding settle without_oldest
less_then a b f fs e none q =
    let m : length a.rx.frames ≡ suc (length fs) = ap length e in
    let z : length (if_good f.state f.bytes) ≡ 0 = ap length none in
    record { active = q.active; failed = q.failed; fewer = omega (arith, q.fewer); falls = omega (arith, q.falls, good-first a f fs e) }

-- ---- the turns: 3 accesses for each frame that is dropped

mutual
  unfolding look_talk receive_talk drop_talk run

  pub look-less : (n : ℕ) (d : Driver) (a : Adapter) → Fit a → needed (length a.rx.frames) ≤ n → Less a (run (look_talk n d) a).adapter
  look-less zero d a h k = absurd (omega arith)
  look-less (suc left) d a h k =
      let turn : ℕ → Talk Serving =
      λ status. cond (unfit status) (done (plain (Err CardUnfit) d)) (cond (tx_complete status) (report_talk left d) (cond (rx_complete status) (receive_talk left d) (idle_talk left d))) in
      let P : Talk Serving → Type 0 = λ t. Less a (run t a).adapter in
      subst⁻¹ (λ (t : Step). Less a (run (turn t.value) t.adapter).adapter) (read-status a h.sane.sound h.active)
      (of_test P (unfit (status_word a)) (λ u. never (sym (sees_fit a h) ∙ u))
      (λ _. of_test P (tx_complete (status_word a)) (λ y. report-less left d a h (sym (sees_statuses a h) ∙ y) (omega arith))
      (λ n. of_test P (rx_complete (status_word a)) (λ y. receive_less left d a h (sym (sees_frames a h) ∙ y) (omega arith))
      (λ e. idle-less left d a h (sym (sees_statuses a h) ∙ n) (sym (sees_frames a h) ∙ e)))))

  receive_less : (n : ℕ) (d : Driver) (a : Adapter) → Fit a → complete a.rx.frames ≡ true → needed (length a.rx.frames) ≤ n + 1 → Less a (run (receive_talk n d) a).adapter
  receive_less zero d a h y k = absurd (omega arith)
  receive_less (suc left) d a h y k =
      let o = oldest_of a.rx.frames y in
      let f : Frame = o.first in
      let fs : List Frame = o.behind in
      let e : Ended a f fs = record { sane = h.sane; active = h.active; window = fits-window a h; shape = o.shape; over = o.over } in
      let m : length a.rx.frames ≡ suc (length fs) = ap length o.shape in
      let size = sized_of a f fs h.sane.sound o.shape in
      let code = (holds-first f fs (ap holdable (sym o.shape) ∙ h.sane.held)).0.code in
      let P : Talk Serving → Type 0 = λ t. Less a (run t a).adapter in
      subst⁻¹ (λ (t : Step). Less a (run (cond (bad t.value) (drop_talk left d) (fetch_talk left d (length_in t.value))) t.adapter).adapter)
      (read-rx a f fs h.sane.sound h.active (fits-window a h) h.sane.read o.shape)
      (of_test P (bad (shows f.state (length f.bytes)))
      (λ b. discard-less left d a f fs h e (bad-none f.state f.bytes size b) (omega arith))
      (λ b.
      let g = fine-status f.state (length f.bytes) o.over code size b in
      subst⁻¹ (λ (i : ℕ). P (fetch_talk left d i)) g.count (fetch_less left d a f fs h e g.whole g.long g.short (omega arith))))

  discard-less : (n : ℕ) (d : Driver) (a : Adapter) (f : Frame) (fs : List Frame) → Fit a → Ended a f fs → if_good f.state f.bytes ≡ [] → needed (length fs) + 1 ≤ n
      → Less a (run (drop_talk n d) a).adapter
  discard-less zero d a f fs h o none k = absurd (omega arith)
  discard-less (suc left) d a f fs h o none k =
      let b : Adapter = dropped a f fs in
      let m : length b.rx.frames ≡ length fs = ap length (dropped-frames a f fs) in
      subst⁻¹ (λ (t : Step). Less a (run (look_talk left d) t.adapter).adapter) (discard-access a h.active o.window f fs h.sane.failed o.shape)
      (less_then a (run (look_talk left d) b).adapter f fs o.shape none (look-less left d b (fit-drop a f fs h o) (omega arith)))
