-- On a sound card and driver a call's contract speaks of the run that the event stands for. A refused call leaves the card, and so does its run: reads of Status and TX Free change nothing of what is settled. Assumes nothing.
use Rattle.std.specs.Prelude.{⊤}
use mathlib.Core.Path.{◌≡◌, refl, sym, ap, subst⁻¹, ◌∙◌}
use mathlib.Core.Bool.{Bool, true, false, not, ◌&&◌}
use mathlib.Core.List.{List, [], ◌∷◌}
use Prim.Native.Nat.{ℕ, ◌+◌}
use lib.Dec.{ltb}
use lib.ListN.{length}
use borrow.Author.Tests.{not-false}
use Rattle.bits.proofs.Tests.{by_test, of_cond, of_test, never, join}
use Rattle.store.specs.Store.{round4}
use Rattle.card_rules.specs.declared.Card.{Card}
use Rattle.card_rules.specs.Adapter.{Adapter}
use Rattle.card_rules.specs.Sound.{sound}
use Rattle.card_rules.specs.Settle.{settle}
use Rattle.card_rules.specs.View.{view}
use Rattle.card_rules.proofs.Sides.{settle-stays}
use Rattle.card_rules.specs.Read.{after_word}
use Rattle.card_rules.specs.Access.{ReadWord, Step, effect, access}
use Rattle.card_rules.proofs.StepEnds.{asleep, awake}
use Rattle.driver_rules.specs.declared.Driver.{Driver}
use Rattle.driver_rules.specs.Registers.{unfit}
use Rattle.driver_rules.specs.Talk.{Talk, Ran, done, ask, run, write_words}
use Rattle.driver_rules.specs.Driver.{driver_sound}
use Rattle.driver_rules.proofs.Runs.{writes_law}
use Rattle.driver_rules.specs.Areas.{in_look, in_frame}
use Rattle.driver_rules.specs.Items.{Serving}
use Rattle.driver_rules.specs.declared.Serviced.{Serviced}
use Rattle.driver_rules.specs.declared.After.{After}
use Rattle.driver_rules.specs.Open as opens
use Rattle.driver_rules.specs.Open.{open_talk}
use Rattle.driver_rules.specs.Opens as inner_open
use Rattle.driver_rules.specs.Send as sends
use Rattle.driver_rules.specs.Packet.{outside, packet_words}
use Rattle.driver_rules.specs.Send.{Sending, ticketed, send_talk}
use Rattle.driver_rules.specs.Sends as inner_send
use Rattle.driver_rules.specs.Paper.{open_paper, send_paper, service_paper}
use Rattle.driver_rules.specs.Calls.{open_call, send_call, service_call, ServiceCall}
use Rattle.driver_rules.specs.HandUp.{handed}
use Rattle.driver_rules.proofs.HandUp.{handed_as}
use Rattle.driver_rules.proofs.Keeps.{send-keeps, service-keeps}
use Rattle.runs.specs.Run as runs
use Rattle.runs.specs.Run.{Areas, full, next, said}
use Rattle.fits.proofs.Service.{Ways, of_look}
use Rattle.run_calls.specs.Takes.{State, Good, left, hands_up}
use Rattle.run_calls.proofs.Good.{Fine, fine, kept_fine, good_of, fine_of, driver_of_lem, sound_of, Stepping}

-- ---- reads that change nothing

read_stays : (o : ℕ) (a : Adapter) → after_word o a ≡ a → sound a ≡ true → (access (ReadWord o) a).adapter ≡ a
unfolding effect
read_stays o a e s =
    by_test a.id.active
    (λ y. ap (λ (t : Step). t.adapter) (awake (ReadWord o) a y) ∙ ap settle e ∙ settle-stays a s)
    (λ n. ap (λ (t : Step). t.adapter) (asleep (ReadWord o) a n))

-- ---- a send that is refused

module _ (d : Driver) (packet : List ℕ) (a : Adapter) (s : sound a ≡ true) where
  abbrev Unmoved : Talk Sending → Adapter → Type 0
  Unmoved t b = sends.refusing (run t b).answer.answer ≡ true → (run t b).adapter ≡ a

  reads : (o : ℕ) (next : ℕ → Talk Sending) → after_word o a ≡ a → Unmoved (next (access (ReadWord o) a).value) a → Unmoved (ask (ReadWord o) next) a
  unfolding run
  reads o next e h = subst⁻¹ (λ (b : Adapter). Unmoved (next (access (ReadWord o) a).value) b) (read_stays o a e s) h

  writes : (vs : List ℕ) → Unmoved (write_words vs (done (ticketed d))) a
  unfolding run
  writes vs y = never (sym (ap (λ (R : Ran Sending). sends.refusing R.answer.answer) (writes_law vs (done (ticketed d)) a)) ∙ y)

  refuses : (x : Sending) → Unmoved (done x) a
  unfolding run
  refuses x y = refl

  send-unmoved : Unmoved (send_talk d packet) a
  unfolding send_talk after_word
  send-unmoved =
      of_cond (λ (t : Talk Sending). Unmoved t a) (not d.opened) (refuses _)
      (of_cond (λ (t : Talk Sending). Unmoved t a) (outside (length packet)) (refuses _)
      (of_cond (λ (t : Talk Sending). Unmoved t a) (ltb 15 d.unreported) (refuses _)
      (reads 14 _ refl (of_cond (λ (t : Talk Sending). Unmoved t a) (unfit (access (ReadWord 14) a).value) (refuses _)
      (reads 12 _ refl (of_cond (λ (t : Talk Sending). Unmoved t a) (ltb (access (ReadWord 12) a).value (4 + round4 (length packet))) (refuses _)
      (writes (packet_words packet))))))))

-- ---- a service that is not begun, and what any service hands up

unbegun : (l : Bool) (d : Driver) (budget : ℕ) (a : Adapter) → (d.opened && l) ≡ false → (run (service_call true l d budget) a).adapter ≡ a
unfolding service_call run
unbegun l d budget a e =
    of_test (λ (t : Talk Serving). (run t a).adapter ≡ a) (not d.opened) (λ _. refl)
    (λ o. of_test (λ (t : Talk Serving). (run t a).adapter ≡ a) (not l) (λ _. refl)
    (λ m. never (sym e ∙ join d.opened l (not-false d.opened o) (not-false l m))))

abbrev Hands : Serving → Type 0
Hands x = (look frame : List ℕ) → hands_up x.answer (record { look = in_look x.bytes look; frame = in_frame x.bytes frame }) ≡ x.bytes

hands_up_lem : Ways Hands
hands_up_lem =
    record {
      budget-short = λ d look frame. refl;
      card-unfit = λ d look frame. refl;
      reported = λ t s d look frame. refl;
      status = λ s d look frame. refl;
      idle = λ d look frame. refl;
      frame = λ n d bytes e look frame. ap (λ (m : ℕ). handed (in_look bytes look) (in_frame bytes frame) m) (sym e) ∙ handed_as bytes look frame;
    }

service-hands : (l : Bool) (d : Driver) (budget : ℕ) (a : Adapter) → Hands (run (service_call true l d budget) a).answer
unfolding service_call run
service-hands l d budget a =
    of_cond (λ (t : Talk Serving). Hands (run t a).answer) (not d.opened) (λ look frame. refl)
    (of_cond (λ (t : Talk Serving). Hands (run t a).answer) (not l) (λ look frame. refl) (of_look Hands hands_up_lem budget d a))

-- ---- the driver that a service leaves is sound

service-driver : (l : Bool) (d : Driver) (budget : ℕ) (a : Adapter) → driver_sound d ≡ true → driver_sound (run (service_call true l d budget) a).answer.driver ≡ true
unfolding service_call run
service-driver l d budget a p =
    of_cond (λ (t : Talk Serving). driver_sound (run t a).answer.driver ≡ true) (not d.opened) p
    (of_cond (λ (t : Talk Serving). driver_sound (run t a).answer.driver ≡ true) (not l) p (service-keeps budget d a p))

-- ---- the calls

module _ (s : State) (g : Good s) where
  abbrev d : Driver
  d = s.driver

  abbrev a : Adapter
  a = view s.card s.ram s.dir

  abbrev Kept : Card → List ℕ → List ℕ → Type 0
  Kept r ram dir = (r ≡ s.card) × ((ram ≡ s.ram) × (dir ≡ s.dir))

  kept-view : (r : Card) (ram dir : List ℕ) → Kept r ram dir → view r ram dir ≡ a
  kept-view r ram dir q i = view (q.0 i) (q.1.0 i) (q.1.1 i)

  still_fine : (r : Card) (ram dir : List ℕ) → Kept r ram dir → Fine r ram dir
  still_fine r ram dir q = kept_fine s.card s.ram s.dir r ram dir q.0 q.1.0 q.1.1 (fine_of s g)

  open_done : (w₀ w₁ w₂ : ℕ) → opens.refusing (run (open_talk d w₀ w₁ w₂) a).answer.answer ≡ false
  unfolding open_talk run
  open_done w₀ w₁ w₂ = refl

  open_driver : (w₀ w₁ w₂ : ℕ) → driver_sound (run (open_talk d w₀ w₁ w₂) a).answer.driver ≡ true
  unfolding open_talk run
  open_driver w₀ w₁ w₂ = driver_of_lem s g

  pub open_steps : (w₀ w₁ w₂ : ℕ) (t : Bool) (r : After ⊤) (ram dir : List ℕ) → t ≡ true → inner_open.Opens (run (open_call t d w₀ w₁ w₂) a) s.card s.ram s.dir r ram dir
      → Stepping (runs.Open w₀ w₁ w₂) s (left r.card ram dir r.driver) (runs.answered (open_paper r.answer) ∷ [])
  unfolding next said runs.opens open_call
  open_steps w₀ w₁ w₂ true r ram dir e k =
      let q = k.taken (ap opens.refusing k.answer ∙ open_done w₀ w₁ w₂) in
      record {
        leaves = λ i. record { adapter = q.shows i; driver = k.driver i };
        answers = λ i. runs.answered (open_paper (k.answer i)) ∷ [];
        good = good_of r.card ram dir r.driver (fine r.card ram dir q.sound) (ap driver_sound k.driver ∙ open_driver w₀ w₁ w₂);
      }
  open_steps w₀ w₁ w₂ false r ram dir e k = never e

  pub send_steps : (packet : List ℕ) (t : Bool) (r : After ℕ) (ram dir : List ℕ) → t ≡ true → inner_send.Sends (run (send_call t d packet) a) s.card s.ram s.dir r ram dir
      → Stepping (runs.Send packet) s (left r.card ram dir r.driver) (runs.answered (send_paper r.answer) ∷ [])
  unfolding next said runs.sends send_call
  send_steps packet true r ram dir e k =
      let shows : view r.card ram dir ≡ (run (send_talk d packet) a).adapter =
      by_test (sends.refusing r.answer)
      (λ y. kept-view r.card ram dir (k.kept y) ∙ sym (send-unmoved d packet a (sound_of s g).calm (sym (ap sends.refusing k.answer) ∙ y)))
      (λ n. (k.taken n).shows) in
      let fits : Fine r.card ram dir =
      by_test (sends.refusing r.answer) (λ y. still_fine r.card ram dir (k.kept y)) (λ n. fine r.card ram dir (k.taken n).sound) in
      record {
        leaves = λ i. record { adapter = shows i; driver = k.driver i };
        answers = λ i. runs.answered (send_paper (k.answer i)) ∷ [];
        good = good_of r.card ram dir r.driver fits (ap driver_sound k.driver ∙ send-keeps d (driver_of_lem s g) packet a);
      }
  send_steps packet false r ram dir e k = never e

  pub service_steps : (budget : ℕ) (x x' : Areas) (t : Bool) (r : Serviced) (ram dir : List ℕ) → t ≡ true
      → ServiceCall (t && (d.opened && full x)) (run (service_call t (full x) d budget) a) s.card s.ram s.dir x.look x.frame r ram dir x'.look x'.frame
      → Stepping (runs.Service budget x) s (left r.card ram dir r.driver) (runs.served (service_paper r.answer r.used) (hands_up r.answer x') x' ∷ [])
  unfolding next said runs.serves
  service_steps budget x x' true r ram dir e k =
      let R : Ran Serving = run (service_call true (full x) d budget) a in
      let shows : view r.card ram dir ≡ R.adapter =
      by_test (d.opened && full x) (λ y. (k.taken y).shows) (λ n. kept-view r.card ram dir (k.kept n) ∙ sym (unbegun (full x) d budget a n)) in
      let fits : Fine r.card ram dir =
      by_test (d.opened && full x) (λ y. fine r.card ram dir (k.taken y).sound) (λ n. still_fine r.card ram dir (k.kept n)) in
      let areas : x' ≡ record { look = in_look R.answer.bytes x.look; frame = in_frame R.answer.bytes x.frame } =
      λ i. record { look = k.lookahead i; frame = k.frames i } in
      let bytes : hands_up r.answer x' ≡ R.answer.bytes =
      (λ i. hands_up (k.answer i) (areas i)) ∙ service-hands (full x) d budget a x.look x.frame in
      record {
        leaves = λ i. record { adapter = shows i; driver = k.driver i };
        answers = λ i. runs.served (service_paper (k.answer i) (k.used i)) (bytes i) (areas i) ∷ [];
        good = good_of r.card ram dir r.driver fits (ap driver_sound k.driver ∙ service-driver (full x) d budget a (driver_of_lem s g));
      }
  service_steps budget x x' false r ram dir e k = never e
