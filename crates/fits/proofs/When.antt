-- What each call says is a chain of its tests, by the run of its tree: each number has its row in it. A service that is begun is refused 5 at its first Status read or not at all, and is short by what it needs. Assumes nothing.
use Rattle.std.specs.Prelude.{Result, Ok, Err}
use mathlib.Core.Path.{◌≡◌, refl, sym, ap, ◌∙◌}
use mathlib.Core.Logic.{◌↔◌, ◌⊎◌, inl, inr}
use mathlib.Core.Bool.{Bool, true, false, cond, not}
use mathlib.Core.List.{List}
use Prim.Native.Nat.{ℕ, zero, suc, ◌<◌}
use native.Mathlib.Omega.{arith}
use lib.Dec.{ltb, eqb}
use lib.ListN.{length}
use Rattle.refusal.specs.declared.Refusal.{Refusal}
use Rattle.refusal.specs.declared.Refusal.TheVariants.{StateUnsound, NeverOpened, AreaShort, CardUnfit}
use Rattle.refusal.specs.Number.{number_of}
use Rattle.bits.proofs.Tests.{of_cond, by_test, never}
use Rattle.card_rules.specs.Adapter.{Adapter}
use Rattle.card_rules.specs.View.{view}
use Rattle.card_rules.specs.Access.{Access}
use Rattle.driver_rules.specs.declared.Driver.{Driver}
use Rattle.driver_rules.specs.Registers.{unfit, tx_complete, rx_complete}
use Rattle.driver_rules.specs.Packet.{outside, lacks_room, packet_words}
use Rattle.driver_rules.specs.Talk.{Talk, done, ask, Ran, run}
use Rattle.driver_rules.proofs.Runs.{writes_law}
use Rattle.driver_rules.proofs.Unfit.{unfit_at_once}
use Rattle.driver_rules.specs.declared.Item.{Item}
use Rattle.driver_rules.specs.declared.Item.TheVariants as serving
use Rattle.driver_rules.specs.Open.{open_talk}
use Rattle.driver_rules.specs.Send.{Sending, refuses, ticketed, send_talk}
use Rattle.driver_rules.specs.Items.{Serving, plain, short, report_talk, idle_talk}
use Rattle.driver_rules.specs.Service.{look_talk, receive_talk}
use Rattle.driver_rules.specs.Paper as paper
use Rattle.driver_rules.specs.Paper.{Paper, refused, ticket, open_paper, send_paper, service_paper}
use Rattle.driver_rules.specs.Calls.{sound_state, large, open_call, send_call, service_call}
use Rattle.fits.specs.Agree.{is_refused}
use Rattle.fits.specs.Order.{status_read, free_read}
use Rattle.fits.specs.When.{looked, Short, Begun, Open-when, Send-when, Service-when, RefusedExactlyWhen}
use Rattle.fits.proofs.Rows.{number, apart, nowhere, here, here-not, behind, behind-not, last, last-not, said}
use Rattle.fits.proofs.Needs.{six, short_when, spared, one_need}
use Rattle.fits.proofs.Endless.{endless}
use Rattle.fits.proofs.Service.{Ways, of_look}

-- ---- open

open_says : (sound : Bool) (d : Driver) (w₀ w₁ w₂ : ℕ) (a : Adapter) → open_paper (run (open_call sound d w₀ w₁ w₂) a).answer.answer ≡ cond (not sound) (refused 1) paper.opened
unfolding open_call open_talk run
open_says true d w₀ w₁ w₂ a = refl
open_says false d w₀ w₁ w₂ a = refl

open_when : (sound : Bool) (d : Driver) (says : Paper) → says ≡ cond (not sound) (refused 1) paper.opened → Open-when sound d says
open_when sound d says e = record { refusal_1 = said e (here-not sound 1 (apart paper.opened (refused 1) refl)); no_other = said e (last-not sound 1 paper.opened refl) }

-- ---- send

-- refused where a test holds, and on where it does not
sends_by : (b : Bool) (why : Refusal) (d : Driver) (rest : Talk Sending) (a : Adapter) (p : Paper) → send_paper (run rest a).answer.answer ≡ p
    → send_paper (run (cond b (done (refuses d why)) rest) a).answer.answer ≡ cond b (refused (number_of why)) p
unfolding run
sends_by true why d rest a p e = refl
sends_by false why d rest a p e = e

sends-sound : (sound : Bool) (why : Refusal) (d : Driver) (rest : Talk Sending) (a : Adapter) (p : Paper) → send_paper (run rest a).answer.answer ≡ p
    → send_paper (run (cond sound rest (done (refuses d why))) a).answer.answer ≡ cond (not sound) (refused (number_of why)) p
unfolding run
sends-sound true why d rest a p e = e
sends-sound false why d rest a p e = refl

module _ (sound : Bool) (d : Driver) (packet : List ℕ) (a : Adapter) where
  abbrev long : Bool
  long = outside (length packet)

  abbrev many : Bool
  many = ltb 15 d.unreported

  abbrev bad-status : Bool
  bad-status = unfit (status_read a)

  abbrev no_room : Bool
  no_room = lacks_room (free_read a) (length packet)

  abbrev sent : Paper
  sent = ticket d.sent

  abbrev send_chain : Paper
  send_chain = cond (not sound) (refused 1) (cond (not d.opened) (refused 13) (cond long (refused 2) (cond many (refused 3) (cond bad-status (refused 5) (cond no_room (refused 4) sent)))))

  send-says : send_paper (run (send_call sound d packet) a).answer.answer ≡ send_chain
  unfolding send_call send_talk run
  send-says =
      sends-sound sound _ d _ a _
      (sends_by (not d.opened) _ d _ a _
      (sends_by long _ d _ a _
      (sends_by many _ d _ a _
      (sends_by bad-status _ d _ _ _
      (sends_by no_room _ d _ _ _
      (ap (λ (R : Ran Sending). send_paper R.answer.answer) (writes_law (packet_words packet) (done (ticketed d)) _)))))))

  send_when : (says : Paper) → says ≡ send_chain → Send-when sound d packet a says
  send_when says e =
      record {
        refusal_1 = said e (here-not sound 1
            (nowhere (not d.opened) 13 (refused 1) refl (nowhere long 2 (refused 1) refl (nowhere many 3 (refused 1) refl (nowhere bad-status 5 (refused 1) refl (nowhere no_room 4 (refused 1) refl (apart sent (refused 1) refl)))))));
        refusal_13 = said e (behind-not sound 1 (refused 13) refl (here-not d.opened 13
            (nowhere long 2 (refused 13) refl (nowhere many 3 (refused 13) refl (nowhere bad-status 5 (refused 13) refl (nowhere no_room 4 (refused 13) refl (apart sent (refused 13) refl)))))));
        refusal_2 = said e (behind-not sound 1 (refused 2) refl (behind-not d.opened 13 (refused 2) refl (here long 2
            (nowhere many 3 (refused 2) refl (nowhere bad-status 5 (refused 2) refl (nowhere no_room 4 (refused 2) refl (apart sent (refused 2) refl)))))));
        refusal_3 = said e (behind-not sound 1 (refused 3) refl (behind-not d.opened 13 (refused 3) refl (behind long 2 (refused 3) refl (here many 3
            (nowhere bad-status 5 (refused 3) refl (nowhere no_room 4 (refused 3) refl (apart sent (refused 3) refl)))))));
        refusal_5 = said e (behind-not sound 1 (refused 5) refl (behind-not d.opened 13 (refused 5) refl (behind long 2 (refused 5) refl (behind many 3 (refused 5) refl (here bad-status 5
            (nowhere no_room 4 (refused 5) refl (apart sent (refused 5) refl)))))));
        refusal_4 = said e (behind-not sound 1 (refused 4) refl (behind-not d.opened 13 (refused 4) refl (behind long 2 (refused 4) refl (behind many 3 (refused 4) refl (behind bad-status 5 (refused 4) refl
            (here no_room 4 (apart sent (refused 4) refl)))))));
        no_other = said e (behind-not sound 1 sent refl (behind-not d.opened 13 sent refl (behind long 2 sent refl (behind many 3 sent refl (behind bad-status 5 sent refl (last no_room 4 sent refl))))));
      }

-- ---- a service that is begun: 5, or 6, or no refusal

-- the paper says short where the answer is 6
short_by : (b : Bool) (m used : ℕ) → eqb m 6 ≡ b → cond b (paper.short used) (refused m) ≡ paper.short used ↔ b ≡ true
short_by true m used h = (λ _. refl, λ _. refl)
short_by false m used h = (λ e. absurd (apart (refused m) (paper.short used) h e), λ e. never e)

says-short : (x : Result Item Refusal) (used : ℕ) → service_paper x used ≡ paper.short used ↔ six x ≡ true
says-short (Ok (serving.Reported t s)) used = (λ e. absurd (apart (paper.report t s used) (paper.short used) refl e), λ e. never e)
says-short (Ok (serving.Status s)) used = (λ e. absurd (apart (paper.status_alone s used) (paper.short used) refl e), λ e. never e)
says-short (Ok (serving.Frame n)) used = (λ e. absurd (apart (paper.frame n used) (paper.short used) refl e), λ e. never e)
says-short (Ok serving.Idle) used = (λ e. absurd (apart (paper.idle used) (paper.short used) refl e), λ e. never e)
says-short (Err why) used = short_by (eqb (number_of why) 6) (number_of why) used refl

-- its one refusal besides is 5
abbrev Five : Serving → Type 0
Five x = (used n : ℕ) → service_paper x.answer used ≡ refused n → (n ≡ 5) × (x.answer ≡ Err CardUnfit)

five_alone : Ways Five
five_alone =
    record {
      budget-short = λ d used n e. never (ap is_refused e);
      card-unfit = λ d used n e. (sym (ap number e), refl);
      reported = λ t s d used n e. never (ap is_refused e);
      status = λ s d used n e. never (ap is_refused e);
      idle = λ d used n e. never (ap is_refused e);
      frame = λ m d bytes l used n e. never (ap is_refused e);
    }

-- a talk that makes no access does not answer 5
abbrev Quiet : Talk Serving → Type 0
Quiet t = (a : Adapter) → length (run t a).made ≡ 0 → (run t a).answer.answer ≡ Err CardUnfit → ⊥

quiet-ask : (x : Access) (next : ℕ → Talk Serving) → Quiet (ask x next)
unfolding run
quiet-ask x next a n e = omega arith

quiet_short : (d : Driver) → Quiet (done (short d))
unfolding run
quiet_short d a n e = never (sym (ap six e))

quiet-report : (left : ℕ) (d : Driver) → Quiet (report_talk left d)
unfolding report_talk
quiet-report left d = of_cond Quiet (ltb left 4) (quiet_short d) (quiet-ask _ _)

quiet_receive : (left : ℕ) (d : Driver) → Quiet (receive_talk left d)
unfolding receive_talk
quiet_receive zero d = quiet_short d
quiet_receive (suc left) d = quiet-ask _ _

quiet-idle : (left : ℕ) (d : Driver) → Quiet (idle_talk left d)
unfolding idle_talk
quiet-idle zero d = quiet_short d
quiet-idle (suc left) d = quiet-ask _ _

-- 5 comes at the first read, so that read shows an unfit Status
unfit-shown : (budget : ℕ) (d : Driver) (a : Adapter) → (run (look_talk budget d) a).answer.answer ≡ Err CardUnfit → (0 < budget) × (unfit (status_read a) ≡ true)
unfolding look_talk run
unfit-shown zero d a e = never (sym (ap six e))
unfit-shown (suc left) d a e =
    let once : length (run (look_talk (suc left) d) a).made ≡ 1 = ap length (unfit_at_once (suc left) d a e) in
    let s : ℕ = status_read a in
    let rest : Quiet (cond (tx_complete s) (report_talk left d) (cond (rx_complete s) (receive_talk left d) (idle_talk left d))) =
    of_cond Quiet (tx_complete s) (quiet-report left d) (of_cond Quiet (rx_complete s) (quiet_receive left d) (quiet-idle left d)) in
    by_test (unfit s) (λ u. (omega arith, u)) (λ u. absurd (rest (looked a) (omega (arith, rw u at once)) (rw u at e)))

unfit-said : (budget : ℕ) (d : Driver) (a : Adapter) → 0 < budget → unfit (status_read a) ≡ true → (run (look_talk budget d) a).answer.answer ≡ Err CardUnfit
unfolding look_talk run
unfit-said zero d a b u = absurd (omega arith)
unfit-said (suc left) d a b u = rw u

-- ---- service

serves_by : (b : Bool) (why : Refusal) (d : Driver) (rest : Talk Serving) (a : Adapter) (used : ℕ) (p : Paper) → service_paper (run rest a).answer.answer used ≡ p
    → service_paper (run (cond b (done (plain (Err why) d)) rest) a).answer.answer used ≡ cond b (service_paper (Err why) used) p
unfolding run
serves_by true why d rest a used p e = refl
serves_by false why d rest a used p e = e

among : (s o l : Bool) (q : Paper) (n : ℕ) → (q ≡ refused n → n ≡ 5)
    → cond (not s) (refused 1) (cond (not o) (refused 13) (cond (not l) (refused 7) q)) ≡ refused n → (n ≡ 1) ⊎ (n ≡ 13) ⊎ (n ≡ 7) ⊎ (n ≡ 5)
among false o l q n k e = inl (sym (ap number e))
among true false l q n k e = inr (inl (sym (ap number e)))
among true true false q n k e = inr (inr (inl (sym (ap number e))))
among true true true q n k e = inr (inr (inr (k e)))

module _ (sound : Bool) (d : Driver) (budget : ℕ) (look frame : List ℕ) (a : Adapter) (used : ℕ) where
  abbrev areas : Bool
  areas = large look frame

  abbrev answers : Result Item Refusal
  answers = (run (look_talk budget d) a).answer.answer

  abbrev begun-says : Paper
  begun-says = service_paper answers used

  abbrev service_chain : Paper
  service_chain = cond (not sound) (refused 1) (cond (not d.opened) (refused 13) (cond (not areas) (refused 7) begun-says))

  service-says : service_paper (run (service_call sound areas d budget) a).answer.answer used ≡ service_chain
  unfolding service_call
  service-says = serves_by (not sound) StateUnsound d _ a used _ (serves_by (not d.opened) NeverOpened d _ a used _ (serves_by (not areas) AreaShort d _ a used _ refl))

  five : (n : ℕ) → begun-says ≡ refused n → (n ≡ 5) × (answers ≡ Err CardUnfit)
  five n e = of_look Five five_alone budget d a used n e

  not_five : (n : ℕ) → eqb n 5 ≡ false → begun-says ≡ refused n → ⊥
  not_five n h e = apart (refused n) (refused 5) h (ap refused (five n e).0)

  six_when : begun-says ≡ paper.short used ↔ Short budget a
  six_when =
      let w = says-short answers used in
      let v = short_when budget d a in
      (λ e. v.0 (w.0 e), λ k. w.1 (v.1 k))

  -- behind 1, 13 and 7
  begun : (says x : Paper) {P : Type 0} → says ≡ service_chain → eqb 1 (number x) ≡ false → eqb 13 (number x) ≡ false → eqb 7 (number x) ≡ false → (begun-says ≡ x ↔ P) → says ≡ x ↔ Begun sound d look frame P
  begun says x e h₁ h₁₃ h₇ k = said e (behind-not sound 1 x h₁ (behind-not d.opened 13 x h₁₃ (behind-not areas 7 x h₇ k)))

  service_when : (says : Paper) → says ≡ service_chain → Service-when sound d look frame budget a used says
  service_when says e =
      record {
        refusal_1 = said e (here-not sound 1 (nowhere (not d.opened) 13 (refused 1) refl (nowhere (not areas) 7 (refused 1) refl (not_five 1 refl))));
        refusal_13 = said e (behind-not sound 1 (refused 13) refl (here-not d.opened 13 (nowhere (not areas) 7 (refused 13) refl (not_five 13 refl))));
        refusal_7 = said e (behind-not sound 1 (refused 7) refl (behind-not d.opened 13 (refused 7) refl (here-not areas 7 (not_five 7 refl))));
        refusal_5 =
            begun says (refused 5) e refl refl refl
            (λ f. let q = unfit-shown budget d a (five 5 f).1 in (omega (arith, q.0), q.1), λ p. ap (λ (x : Result Item Refusal). service_paper x used) (unfit-said budget d a (omega (arith, p.0)) p.1));
        refusal_6 = begun says (paper.short used) e refl refl refl six_when;
        enough = λ h.
            by_test (six answers)
            (λ y. absurd (h.1.1.1 ((begun says (paper.short used) e refl refl refl (says-short answers used)).1 (h.0, (h.1.0, (h.1.1.0, y))))))
            (λ n. spared budget d a n);
        no_other = λ n f. among sound d.opened areas begun-says n (λ g. (five n g).0) (sym e ∙ f);
      }

pub refused_exactly_when_lem : RefusedExactlyWhen
refused_exactly_when_lem =
    record {
      opens = λ c ram dir d w₀ w₁ w₂ r ram' dir' k. open_when (sound_state c ram dir d) d (open_paper r.answer) (ap open_paper k.answer ∙ open_says (sound_state c ram dir d) d w₀ w₁ w₂ (view c ram dir));
      sends = λ c ram dir d packet r ram' dir' k. send_when (sound_state c ram dir d) d packet (view c ram dir) (send_paper r.answer) (ap send_paper k.answer ∙ send-says (sound_state c ram dir d) d packet (view c ram dir));
      services = λ c ram dir d budget look frame r ram' dir' look' frame' k.
          service_when (sound_state c ram dir d) d budget look frame (view c ram dir) r.used (service_paper r.answer r.used)
          (ap (λ (x : Result Item Refusal). service_paper x r.used) k.answer ∙ service-says (sound_state c ram dir d) d budget look frame (view c ram dir) r.used);
      one_need = one_need;
      endless = λ a s on w f u t x g budget n k. absurd (endless a s on w f u t x g a n refl k);
    }
