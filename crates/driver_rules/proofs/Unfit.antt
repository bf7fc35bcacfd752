-- Refusal 5 comes at the first Status read or not at all: no access of a service makes a fit card unfit. Assumes nothing.
use Rattle.std.specs.Prelude.{Result, Ok, Err}
use mathlib.Core.Path.{◌≡◌, refl, sym, ap, subst⁻¹, ◌∙◌}
use mathlib.Core.Bool.{Bool, true, false, cond, not, ◌&&◌, ◌||◌}
use mathlib.Core.List.{List, [], ◌∷◌}
use Prim.Native.Nat.{ℕ, zero, suc, ◌+◌, ◌/◌, ◌%◌}
use native.Mathlib.Omega.{arith}
use borrow.Author.Tests.{eqb-true, not-false}
use lib.Dec.{eqb, ltb}
use lib.ListN.{take}
use Rattle.refusal.specs.declared.Refusal.{Refusal}
use Rattle.refusal.specs.declared.Refusal.TheVariants.{CardUnfit, BudgetShort}
use Rattle.refusal.specs.Number.{number_of}
use Rattle.bits.specs.Bits.{has}
use Rattle.bits.proofs.Tests.{of_cond, by_test, never, neither}
use Rattle.receive_rules.specs.Frame.{Rx, Frame}
use Rattle.receive_rules.specs.Reading as reading
use Rattle.card_rules.specs.Adapter.{Adapter}
use Rattle.card_rules.specs.Update.{with_rx}
use Rattle.card_rules.specs.Status.{failure, flags}
use Rattle.card_rules.specs.Settle.{settle}
use Rattle.card_rules.specs.Command.{command, commanded}
use Rattle.card_rules.specs.Read.{word_at, after_word}
use Rattle.card_rules.specs.Write.{write_word}
use Rattle.card_rules.specs.Access.{Access, ReadWord, WriteWord, Step, effect, access}
use Rattle.card_rules.proofs.StepEnds.{asleep, awake}
use Rattle.driver_rules.specs.declared.Driver.{Driver}
use Rattle.driver_rules.specs.Registers.{unfit, tx_complete, rx_complete, rx_discard, bad, length_in}
use Rattle.driver_rules.specs.Talk.{Talk, done, ask, order, run, read_words}
use Rattle.driver_rules.proofs.Status.{unfit-status}
use Rattle.driver_rules.specs.declared.Item.{Item}
use Rattle.driver_rules.specs.declared.Item.TheVariants.{Reported, Status, Idle}
use Rattle.driver_rules.specs.declared.Item.TheVariants as answer
use Rattle.driver_rules.specs.Driver.{oldest_ticket, with_error}
use Rattle.driver_rules.specs.Items.{Serving, plain, short, seen, is_error, reports, report_talk, idle_talk, fetch_talk, words_in}
use Rattle.driver_rules.specs.Service.{look_talk, receive_talk, drop_talk}
use Rattle.driver_rules.specs.Unfit.{UnfitComesAtOnce}

-- ---- talks that never answer 5, whatever is read

Safe : Talk Serving → Adapter → Type 0
Safe t a = (run t a).answer.answer ≡ Err CardUnfit → ⊥

data Never : Talk Serving → Type 0 where
  ends : {x : Serving} → (x.answer ≡ Err CardUnfit → ⊥) → Never (done x)
  asks : {x : Access} {k : ℕ → Talk Serving} → ((v : ℕ) → Never (k v)) → Never (ask x k)

safe : (t : Talk Serving) → Never t → (a : Adapter) → Safe t a
unfolding run Safe
safe (done x) (ends h) a = h
safe (ask x k) (asks h) a = safe (k (access x a).value) (h (access x a).value) (access x a).adapter

-- the number of a refusal, 0 of another answer
number : Result Item Refusal → ℕ
number (Ok item) = 0
number (Err why) = number_of why

not_five : (x : Result Item Refusal) → (number x ≡ 5 → ⊥) → x ≡ Err CardUnfit → ⊥
unfolding number
not_five x h e = h (ap number e)

short-ends : (d : Driver) → Never (done (short d))
unfolding number
short-ends d = ends (not_five (Err BudgetShort) (λ e. omega arith))

reports_never : (status : ℕ) (d : Driver) → Never (done (reports status d))
unfolding reports number
reports_never status d =
    of_cond (λ (x : Serving). Never (done x)) (ltb 0 d.unreported) (ends (not_five (Ok (Reported (oldest_ticket d) status)) (λ e. omega arith))) (ends (not_five (Ok (Status status)) (λ e. omega arith)))

report_never : (left : ℕ) (d : Driver) → Never (report_talk left d)
unfolding report_talk
report_never left d =
    of_cond Never (ltb left 4) (short-ends d)
    (asks (λ status. asks (λ _. asks (λ next.
    of_cond Never ((d.error || is_error status) && eqb next 0) (asks (λ _. reports_never status (with_error false d))) (reports_never status (seen d status))))))

idle_never : (left : ℕ) (d : Driver) → Never (idle_talk left d)
unfolding idle_talk number
idle_never zero d = short-ends d
idle_never (suc left) d = asks (λ _. ends (not_five (Ok Idle) (λ e. omega arith)))

words_never : (w : ℕ) (k : List ℕ → Talk Serving) → ((bytes : List ℕ) → Never (k bytes)) → Never (read_words w k)
unfolding read_words
words_never zero k h = h []
words_never (suc w) k h = asks (λ v. words_never w (λ bytes. k (v % 256 ∷ (v / 256 ∷ bytes))) (λ bytes. h (v % 256 ∷ (v / 256 ∷ bytes))))

fetch_never : (left : ℕ) (d : Driver) (n : ℕ) → Never (fetch_talk left d n)
unfolding fetch_talk number
fetch_never left d n =
    of_cond Never (ltb left (words_in n + 1)) (short-ends d)
    (words_never (words_in n) (λ bytes. order rx_discard 0 (done (record { answer = Ok (answer.Frame n); driver = d; bytes = take n bytes })))
    (λ bytes. asks (λ _. ends (not_five (Ok (answer.Frame n)) (λ e. omega arith)))))

-- ---- a fit card stays fit

record Fit (a : Adapter) : Type 0 where
  active : a.id.active ≡ true
  window : a.select.window ≡ 1
  hidden : (has 2 a.select.zero && failure a) ≡ false

fit-status : (a : Adapter) → Fit a → unfit (access (ReadWord 14) a).value ≡ false
unfolding effect word_at
fit-status a f =
    ap (λ (t : Step). unfit t.value) (awake (ReadWord 14) a f.active) ∙ unfit-status a.select (flags a)
    ∙ ap (λ (w : ℕ). not (eqb w 1) || has 2 a.select.zero && failure a) f.window ∙ f.hidden

-- settle changes neither the window, the mask nor a failure
fit_settled : (a : Adapter) → Fit a → Fit (settle a)
unfolding settle
fit_settled a f = record { active = f.active; window = f.window; hidden = f.hidden }

fit-read : (a : Adapter) → Fit a → Fit (access (ReadWord 14) a).adapter
unfolding effect after_word
fit-read a f = subst⁻¹ (λ (t : Step). Fit t.adapter) (awake (ReadWord 14) a f.active) (fit_settled a f)

fit-rx : (a : Adapter) → Fit a → Fit (access (ReadWord 8) a).adapter
unfolding effect after_word
fit-rx a f = subst⁻¹ (λ (t : Step). Fit t.adapter) (awake (ReadWord 8) a f.active) (fit_settled a f)

-- a discard leaves a failure as it was
without_failed : (x : Rx) (fs : List Frame) → (reading.without_oldest x fs).receiver.failed ≡ x.receiver.failed
unfolding reading.without_oldest
without_failed x [] = refl
without_failed x (g ∷ fs) = refl

discard-failed : (x : Rx) → (reading.discard x).receiver.failed ≡ x.receiver.failed
unfolding reading.discard
discard-failed x = of_cond (λ (y : Rx). y.receiver.failed ≡ x.receiver.failed) x.receiver.failed refl (without_failed x x.frames)

discarded : (a : Adapter) → a.select.window ≡ 1 → write_word 14 16384 a ≡ with_rx (reading.discard a.rx) a
unfolding write_word commanded command
discarded a w = ap (λ (n : ℕ). cond (eqb n 0) a (with_rx (reading.discard a.rx) a)) w

fit-discarded : (a : Adapter) → Fit a → Fit (with_rx (reading.discard a.rx) a)
fit-discarded a f =
    record {
      active = f.active;
      window = f.window;
      hidden = ap (λ (b : Bool). has 2 a.select.zero && (b || a.tx.queue.failed)) (discard-failed a.rx) ∙ f.hidden;
    }

fit-discard : (a : Adapter) → Fit a → Fit (access (WriteWord 14 16384) a).adapter
unfolding effect
fit-discard a f =
    subst⁻¹ (λ (t : Step). Fit t.adapter) (awake (WriteWord 14 16384) a f.active)
    (subst⁻¹ (λ (b : Adapter). Fit (settle b)) (discarded a f.window) (fit_settled (with_rx (reading.discard a.rx) a) (fit-discarded a f)))

mutual
  unfolding look_talk receive_talk drop_talk run Safe

  look_safe : (n : ℕ) (d : Driver) (a : Adapter) → Fit a → Safe (look_talk n d) a
  look_safe zero d a f = safe (done (short d)) (short-ends d) a
  look_safe (suc left) d a f =
      let status : ℕ = (access (ReadWord 14) a).value in
      let b : Adapter = (access (ReadWord 14) a).adapter in
      let rest : Talk Serving = cond (tx_complete status) (report_talk left d) (cond (rx_complete status) (receive_talk left d) (idle_talk left d)) in
      let goes : Safe rest b =
      of_cond (λ (t : Talk Serving). Safe t b) (tx_complete status) (safe (report_talk left d) (report_never left d) b)
      (of_cond (λ (t : Talk Serving). Safe t b) (rx_complete status) (receive_safe left d b (fit-read a f)) (safe (idle_talk left d) (idle_never left d) b)) in
      subst⁻¹ (λ (u : Bool). Safe (cond u (done (plain (Err CardUnfit) d)) rest) b) (fit-status a f) goes

  receive_safe : (n : ℕ) (d : Driver) (a : Adapter) → Fit a → Safe (receive_talk n d) a
  receive_safe zero d a f = safe (done (short d)) (short-ends d) a
  receive_safe (suc left) d a f =
      let rx : ℕ = (access (ReadWord 8) a).value in
      let b : Adapter = (access (ReadWord 8) a).adapter in
      of_cond (λ (t : Talk Serving). Safe t b) (bad rx) (drop_safe left d b (fit-rx a f)) (safe (fetch_talk left d (length_in rx)) (fetch_never left d (length_in rx)) b)

  drop_safe : (n : ℕ) (d : Driver) (a : Adapter) → Fit a → Safe (drop_talk n d) a
  drop_safe zero d a f = safe (done (short d)) (short-ends d) a
  drop_safe (suc left) d a f = look_safe left d (access (WriteWord 14 16384) a).adapter (fit-discard a f)

-- ---- a card that shows a fit Status is fit

fit-shown : (a : Adapter) → unfit (access (ReadWord 14) a).value ≡ false → Fit a
unfolding effect word_at
fit-shown a e =
    by_test a.id.active
    (λ y.
    let h = neither (not (eqb a.select.window 1)) (has 2 a.select.zero && failure a)
    (sym (unfit-status a.select (flags a)) ∙ sym (ap (λ (t : Step). unfit t.value) (awake (ReadWord 14) a y)) ∙ e) in
    record { active = y; window = eqb-true a.select.window 1 (not-false (eqb a.select.window 1) h.0); hidden = h.1 })
    (λ n. never (sym (sym (ap (λ (t : Step). unfit t.value) (asleep (ReadWord 14) a n)) ∙ e)))

pub unfit_at_once : UnfitComesAtOnce
unfolding look_talk run Safe
unfit_at_once zero d a e = absurd (safe (done (short d)) (short-ends d) a e)
unfit_at_once (suc left) d a e =
    by_test (unfit (access (ReadWord 14) a).value)
    (λ y. rw y)
    (λ n. absurd (look_safe (suc left) d a (fit-shown a n) e))
