-- What an idle answer tells: the card is active, no failure stands, and no status is there. Assumes nothing.
use Rattle.std.specs.Prelude.{Result, Ok, Err}
use mathlib.Core.Path.{◌≡◌, refl, ap, sym, ◌∙◌, subst⁻¹}
use mathlib.Core.Bool.{Bool, true, false, not, ◌&&◌, ◌||◌}
use mathlib.Core.List.{List, [], ◌∷◌}
use Prim.Native.Nat.{ℕ, zero, suc, ◌+◌, ◌/◌, ◌%◌}
use lib.Dec.{ltb, eqb}
use Rattle.bits.proofs.Tests.{of_cond, of_test, by_test, never}
use Rattle.refusal.specs.declared.Refusal.{Refusal}
use Rattle.refusal.specs.Number.{number_of}
use Rattle.refusal.specs.declared.Refusal.TheVariants.{CardUnfit, NeverOpened, AreaShort}
use Rattle.transmit_rules.specs.Outcome.{some}
use Rattle.card_rules.specs.declared.Select.{Select}
use Rattle.card_rules.specs.Adapter.{Adapter}
use Rattle.card_rules.specs.Status.{flags, failure, status_of}
use Rattle.card_rules.specs.Settle.{settle}
use Rattle.card_rules.specs.Command.{acknowledge, act, command, commanded}
use Rattle.card_rules.specs.Read.{word_at, after_word}
use Rattle.card_rules.specs.Write.{write_word}
use Rattle.card_rules.specs.Access.{Access, ReadWord, WriteWord, Step, effect, access}
use Rattle.card_rules.proofs.StepEnds.{asleep, awake}
use Rattle.driver_rules.specs.declared.Driver.{Driver}
use Rattle.driver_rules.specs.Driver.{with_error}
use Rattle.driver_rules.specs.Registers.{unfit, tx_complete, rx_complete, bad, length_in}
use Rattle.driver_rules.specs.Talk.{Talk, done, ask, run, read_words}
use Rattle.driver_rules.specs.declared.Item.{Item}
use Rattle.driver_rules.specs.declared.Item.TheVariants as answer
use Rattle.driver_rules.specs.Items.{Serving, plain, short, is_error, seen, reports, report_talk, idle_talk, fetch_talk, words_in}
use Rattle.driver_rules.specs.Service.{look_talk, receive_talk, drop_talk}
use Rattle.driver_rules.specs.Calls.{service_call}
use Rattle.driver_rules.specs.Paper.{Paper, service_paper}
use Rattle.runs.specs.Run.{Bench, Areas, full, Service, serves, next, said}
use Rattle.runs.proofs.Status.{shown, seen-failed, seen-completed}
use Rattle.runs.proofs.Opened.{Set, fine-status, fine-rx, fine-discard}
use Rattle.no_trace.specs.Stretch.{is_idle, answers_idle}

-- nothing for the driver but frames
pub record Calm (a : Adapter) : Type 0 where
  pub active : a.id.active ≡ true
  pub failed : failure a ≡ false
  pub statuses : a.tx.reports.statuses ≡ []

-- ---- Status tells it

none : (xs : List ℕ) → some xs ≡ false → xs ≡ []
unfolding some
none [] e = refl
none (x ∷ xs) e = never (sym e)

status-calm : (a : Adapter) → Set a → unfit (access (ReadWord 14) a).value ≡ false → tx_complete (access (ReadWord 14) a).value ≡ false → Calm a
unfolding effect word_at
status-calm a s u t =
    by_test a.id.active
    (λ y.
    let e : status_of (shown a.select.filter) (flags a) ≡ (access (ReadWord 14) a).value =
    ap (λ (v : Select). status_of v (flags a)) (sym (s.is y)) ∙ sym (ap (λ (x : Step). x.value) (awake (ReadWord 14) a y)) in
    record {
      active = y;
      failed = sym (seen-failed a.select.filter (flags a)) ∙ ap unfit e ∙ u;
      statuses = none a.tx.reports.statuses (sym (seen-completed a.select.filter (flags a)) ∙ ap tx_complete e ∙ t);
    })
    (λ n. never (sym (sym (ap (λ (x : Step). unfit x.value) (asleep (ReadWord 14) a n)) ∙ u)))

-- a read of Status and the acknowledgement leave it so
calm_read : (a : Adapter) → Calm a → Calm (access (ReadWord 14) a).adapter
unfolding effect after_word settle
calm_read a c =
    subst⁻¹ (λ (t : Step). Calm t.adapter) (awake (ReadWord 14) a c.active)
    (record { active = c.active; failed = c.failed; statuses = c.statuses })

calm_acked : (a : Adapter) → Set a → Calm a → Calm (access (WriteWord 14 26729) a).adapter
unfolding effect write_word commanded command act acknowledge settle
calm_acked a s c =
    subst⁻¹ (λ (t : Step). Calm t.adapter) (awake (WriteWord 14 26729) a c.active)
    (rw (s.is c.active) (record { active = c.active; failed = c.failed; statuses = c.statuses }))

-- ---- which talks can answer idle

idles : Result Item Refusal → Bool
idles (Ok (answer.Reported t s)) = false
idles (Ok (answer.Status s)) = false
idles (Ok (answer.Frame n)) = false
idles (Ok answer.Idle) = true
idles (Err why) = false

reports_never : (status : ℕ) (d : Driver) → idles (reports status d).answer ≡ false
unfolding reports idles
reports_never status d = of_cond (λ (x : Serving). idles x.answer ≡ false) (ltb 0 d.unreported) refl refl

-- the talk's answers are not idle, whatever is read
data Busy : Talk Serving → Type 0 where
  ends : {x : Serving} → idles x.answer ≡ false → Busy (done x)
  asks : {x : Access} {t : ℕ → Talk Serving} → ((v : ℕ) → Busy (t v)) → Busy (ask x t)

busy_run : {t : Talk Serving} (a : Adapter) → Busy t → idles (run t a).answer.answer ≡ false
unfolding run
busy_run a (ends e) = e
busy_run a (asks {x} k) = busy_run (access x a).adapter (k (access x a).value)

busy_report : (n : ℕ) (d : Driver) → Busy (report_talk n d)
unfolding report_talk idles
busy_report n d =
    of_cond Busy (ltb n 4) (ends refl)
    (asks (λ status. asks (λ _. asks (λ more.
    of_cond Busy ((d.error || is_error status) && eqb more 0) (asks (λ _. ends (reports_never status (with_error false d)))) (ends (reports_never status (seen d status)))))))

busy_reads : (w : ℕ) (t : List ℕ → Talk Serving) → ((bs : List ℕ) → Busy (t bs)) → Busy (read_words w t)
unfolding read_words
busy_reads zero t k = k []
busy_reads (suc w) t k = asks (λ v. busy_reads w (λ bs. t (v % 256 ∷ (v / 256 ∷ bs))) (λ bs. k (v % 256 ∷ (v / 256 ∷ bs))))

busy_fetch : (n : ℕ) (d : Driver) (m : ℕ) → Busy (fetch_talk n d m)
unfolding fetch_talk idles
busy_fetch n d m = of_cond Busy (ltb n (words_in m + 1)) (ends refl) (busy_reads (words_in m) _ (λ bs. asks (λ _. ends refl)))

-- ---- an idle answer leaves the card calm

-- where a talk t at a answers idle, it leaves the card calm
abbrev Calms : Talk Serving → Adapter → Type 0
Calms t a = idles (run t a).answer.answer ≡ true → Calm (run t a).adapter

busy_calms : {t : Talk Serving} (a : Adapter) → Busy t → Calms t a
busy_calms a b e = never (sym (busy_run a b) ∙ e)

ends_busy : (x : Serving) (a : Adapter) → idles x.answer ≡ false → Calms (done x) a
ends_busy x a e = busy_calms a (ends {x = x} e)

idle_calms : (n : ℕ) (d : Driver) (a : Adapter) → Set a → Calm a → Calms (idle_talk n d) a
unfolding idle_talk run idles
idle_calms zero d a s c e = never e
idle_calms (suc n) d a s c e = calm_acked a s c

mutual
  unfolding look_talk run idles

  look_calms : (n : ℕ) (d : Driver) (a : Adapter) → Set a → Calms (look_talk n d) a
  look_calms zero d a s = ends_busy (short d) a refl
  look_calms (suc n) d a s =
      let w : ℕ = (access (ReadWord 14) a).value in
      let b : Adapter = (access (ReadWord 14) a).adapter in
      let P : Talk Serving → Type 0 = λ (t : Talk Serving). Calms t b in
      of_test P (unfit w) (λ _. ends_busy (plain (Err CardUnfit) d) b refl)
      (λ fit. of_test P (tx_complete w) (λ _. busy_calms b (busy_report n d))
      (λ quiet. of_cond P (rx_complete w) (receive_calms n d b (fine-status a s))
      (idle_calms n d b (fine-status a s) (calm_read a (status-calm a s fit quiet)))))

  receive_calms : (n : ℕ) (d : Driver) (a : Adapter) → Set a → Calms (receive_talk n d) a
  receive_calms zero d a s = ends_busy (short d) a refl
  receive_calms (suc n) d a s =
      let x : ℕ = (access (ReadWord 8) a).value in
      let b : Adapter = (access (ReadWord 8) a).adapter in
      of_cond (λ (t : Talk Serving). Calms t b) (bad x) (drop_calms n d b (fine-rx a s)) (busy_calms b (busy_fetch n d (length_in x)))

  drop_calms : (n : ℕ) (d : Driver) (a : Adapter) → Set a → Calms (drop_talk n d) a
  drop_calms zero d a s = ends_busy (short d) a refl
  drop_calms (suc n) d a s = look_calms n d (access (WriteWord 14 16384) a).adapter (fine-discard a s)

serve_calms : (n : ℕ) (areas : Bool) (d : Driver) (a : Adapter) → Set a → Calms (service_call true areas d n) a
unfolding service_call idles
serve_calms n areas d a s =
    of_cond (λ (t : Talk Serving). Calms t a) (not d.opened) (ends_busy (plain (Err NeverOpened) d) a refl)
    (of_cond (λ (t : Talk Serving). Calms t a) (not areas) (ends_busy (plain (Err AreaShort) d) a refl) (look_calms n d a s))

-- the paper's idle is the answer's
same-idle : (x : Result Item Refusal) (n : ℕ) → is_idle (service_paper x n) ≡ true → idles x ≡ true
unfolding idles
same-idle (Ok (answer.Reported t s)) n e = e
same-idle (Ok (answer.Status s)) n e = e
same-idle (Ok (answer.Frame m)) n e = e
same-idle (Ok answer.Idle) n e = e
same-idle (Err why) n e = of_cond (λ (p : Paper). is_idle p ≡ true → false ≡ true) (eqb (number_of why) 6) (λ f. f) (λ f. f) e

-- A service call that answers idle leaves the card calm.
pub served-calm : (n : ℕ) (r : Areas) (b : Bench) → Set b.adapter → answers_idle (said (Service n r) b) ≡ true → Calm (next (Service n r) b).adapter
unfolding said next serves
served-calm n r b s e = serve_calms n (full r) b.driver b.adapter s (same-idle (serves n r b).answer.answer _ e)
