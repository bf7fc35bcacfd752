-- Each public call is the tree of its inner call under its refusals. Assumes nothing.
use Rattle.std.specs.Prelude.{Err, ⊤}
use mathlib.Core.Path.{◌≡◌, refl, sym, ap, subst⁻¹, ◌∙◌}
use mathlib.Core.Bool.{Bool, true, false, cond, not, ◌&&◌}
use mathlib.Core.List.{List, [], ◌∷◌}
use Prim.Native.Nat.{ℕ, ◌<◌, ◌≤◌}
use lib.ListN.{length}
use borrow.Author.Tests.{le-leb, lt-leb}
use Rattle.refusal.specs.declared.Refusal.{Refusal}
use Rattle.refusal.specs.declared.Refusal.TheVariants.{StateUnsound, CardUnfit, NeverOpened, AreaShort}
use Rattle.bits.proofs.Tests.{never, both, join}
use Rattle.card_rules.specs.declared.Card.{Card}
use Rattle.card_rules.specs.View.{view, Sound, sound_card}
use Rattle.card_rules.specs.Access.{ReadWord}
use Rattle.card_rules.proofs.Checked.{card-told}
use Rattle.driver_rules.specs.declared.Driver.{Driver}
use Rattle.driver_rules.specs.Talk.{Talk, Ran, run}
use Rattle.driver_rules.specs.Driver.{driver_sound}
use Rattle.driver_rules.specs.Items.{Serving, plain}
use Rattle.driver_rules.specs.Areas.{in_look, in_frame}
use Rattle.driver_rules.specs.declared.Serviced.{Serviced}
use Rattle.driver_rules.specs.Service.{look_talk}
use Rattle.driver_rules.specs.Serves.{discarded, stopped, Unmoved}
use Rattle.driver_rules.specs.Serving.{Serves}
use Rattle.driver_rules.specs.declared.After.{After}
use Rattle.driver_rules.specs.Open.{open_talk}
use Rattle.driver_rules.specs.Opens as inner_open
use Rattle.driver_rules.specs.Send.{send_talk}
use Rattle.driver_rules.specs.Sends as inner_send
use Rattle.driver_rules.proofs.Unfit.{unfit_at_once}
use Rattle.driver_rules.specs.Calls.{sound_state, large, open_call, send_call, service_call, Opens, Sends, ServiceCall, Services}

-- a refusal that is passed
pub passed : {A : Type 0} (b : Bool) (x y : A) → b ≡ true → cond (not b) x y ≡ y
passed b x y e = ap (λ (v : Bool). cond (not v) x y) e

-- a service that is begun is a look
pub begun-look : (s l : Bool) (d : Driver) (budget : ℕ) → (s && (d.opened && l)) ≡ true → service_call s l d budget ≡ look_talk budget d
unfolding service_call
begun-look s l d budget b =
    let p = both s (d.opened && l) b in
    let q = both d.opened l p.1 in
    passed s _ _ p.0 ∙ (passed d.opened _ _ q.0 ∙ passed l _ _ q.1)

module _ (c : Card) (ram dir : List ℕ) (d : Driver) where
  -- what the test of soundness tells
  pub state-told : length ram ≡ 8192 → length dir ≡ 1110 → sound_state c ram dir d ≡ true → Sound c ram dir
  state-told r e s = card-told c ram dir r e (both (sound_card c ram dir) (driver_sound d) s).0

  -- ---- open

  module _ (w₀ w₁ w₂ : ℕ) where
    pub open_unsound : sound_state c ram dir d ≡ false → Opens c ram dir d w₀ w₁ w₂ (record { card = c; driver = d; answer = Err StateUnsound }) ram dir
    unfolding open_call run
    open_unsound s = rw s (record { answer = refl; driver = refl; taken = λ n. never (sym n); kept = λ _. (refl, (refl, refl)) })

    pub open_sound : (r : After ⊤) (ram' dir' : List ℕ) → sound_state c ram dir d ≡ true
        → inner_open.Opens (run (open_talk d w₀ w₁ w₂) (view c ram dir)) c ram dir r ram' dir' → Opens c ram dir d w₀ w₁ w₂ r ram' dir'
    unfolding open_call
    open_sound r ram' dir' s o = rw s o

  -- ---- send

  module _ (packet : List ℕ) where
    pub send-unsound : sound_state c ram dir d ≡ false → Sends c ram dir d packet (record { card = c; driver = d; answer = Err StateUnsound }) ram dir
    unfolding send_call run
    send-unsound s = rw s (record { answer = refl; driver = refl; taken = λ n. never (sym n); kept = λ _. (refl, (refl, refl)) })

    pub send-sound : (r : After ℕ) (ram' dir' : List ℕ) → sound_state c ram dir d ≡ true
        → inner_send.Sends (run (send_talk d packet) (view c ram dir)) c ram dir r ram' dir' → Sends c ram dir d packet r ram' dir'
    unfolding send_call
    send-sound r ram' dir' s o = rw s o

  -- ---- service

  module _ (budget : ℕ) (look frame : List ℕ) where
    abbrev begun : Bool
    begun = sound_state c ram dir d && (d.opened && large look frame)

    abbrev R : Ran Serving
    R = run (service_call (sound_state c ram dir d) (large look frame) d budget) (view c ram dir)

    refused : (why : Refusal) → R.answer ≡ plain (Err why) d → length R.made ≡ 0 → begun ≡ false
        → Services c ram dir d budget look frame (record { card = c; driver = d; answer = Err why; used = 0 }) ram dir look frame
    unfolding in_look in_frame
    refused why e n b =
        record {
          answer = sym (ap (λ x. x.answer) e);
          driver = sym (ap (λ x. x.driver) e);
          used = sym n;
          taken = λ t. never (sym b ∙ t);
          kept = λ _. (refl, (refl, refl));
          unmoved = λ t. never (sym b ∙ t);
          lookahead = rw e;
          frames = rw e;
        }

    -- refused 5, a service has read Status alone, and changes nothing
    pub five_keeps : (r : Serviced) (ram' dir' look' frame' : List ℕ) → Services c ram dir d budget look frame r ram' dir' look' frame'
        → begun ≡ true → R.answer.answer ≡ Err CardUnfit → (r.card ≡ c) × ((ram' ≡ ram) × (dir' ≡ dir))
    unfolding discarded
    five_keeps r ram' dir' look' frame' k b e =
        let m : R.made ≡ ReadWord 14 ∷ [] =
        subst⁻¹ (λ (t : Talk Serving). (run t (view c ram dir)).answer.answer ≡ Err CardUnfit → (run t (view c ram dir)).made ≡ ReadWord 14 ∷ [])
        (begun-look (sound_state c ram dir d) (large look frame) d budget b) (unfit_at_once budget d (view c ram dir)) e in
        (k.unmoved b).same (ap stopped e) (ap discarded m)

    pub service-unsound : sound_state c ram dir d ≡ false → Services c ram dir d budget look frame (record { card = c; driver = d; answer = Err StateUnsound; used = 0 }) ram dir look frame
    unfolding service_call run
    service-unsound s = refused StateUnsound (rw s) (rw s) (rw s)

    module _ (s : sound_state c ram dir d ≡ true) where
      pub service-unopened : d.opened ≡ false → Services c ram dir d budget look frame (record { card = c; driver = d; answer = Err NeverOpened; used = 0 }) ram dir look frame
      unfolding service_call run
      service-unopened o = refused NeverOpened (rw (s, o)) (rw (s, o)) (rw (s, o))

      module _ (o : d.opened ≡ true) where
        pub service-tight : large look frame ≡ false → Services c ram dir d budget look frame (record { card = c; driver = d; answer = Err AreaShort; used = 0 }) ram dir look frame
        unfolding service_call run
        service-tight l = refused AreaShort (rw (s, o, l)) (rw (s, o, l)) (rw (s, o, l))

        module _ (l : large look frame ≡ true) where
          is_begun : begun ≡ true
          is_begun = join (sound_state c ram dir d) (d.opened && large look frame) s (join d.opened (large look frame) o l)

          pub service-run : (r : Serviced) (ram' dir' look' frame' : List ℕ)
              → Serves (run (look_talk budget d) (view c ram dir)) r (view r.card ram' dir') look frame look' frame' → Sound r.card ram' dir'
              → Unmoved (run (look_talk budget d) (view c ram dir)) c r.card ram dir ram' dir'
              → Services c ram dir d budget look frame r ram' dir' look' frame'
          service-run r ram' dir' look' frame' m q u =
              subst⁻¹ (λ (t : Talk Serving). ServiceCall begun (run t (view c ram dir)) c ram dir look frame r ram' dir' look' frame') (begun-look (sound_state c ram dir d) (large look frame) d budget is_begun)
              (record {
                answer = m.answer;
                driver = m.driver;
                used = m.used;
                taken = λ _. record { shows = m.adapter; sound = q };
                kept = λ n. never (sym n ∙ is_begun);
                unmoved = λ _. u;
                lookahead = m.look;
                frames = m.frame;
              })

-- the areas, by what the code tests

pub look-tight : (look frame : List ℕ) → length look < 256 → large look frame ≡ false
look-tight look frame h = rw (lt-leb 256 (length look) h)

pub frame-tight : (look frame : List ℕ) → 256 ≤ length look → length frame < 1514 → large look frame ≡ false
frame-tight look frame k h = rw (le-leb 256 (length look) k, lt-leb 1514 (length frame) h)

pub both-large : (look frame : List ℕ) → 256 ≤ length look → 1514 ≤ length frame → large look frame ≡ true
both-large look frame k h = rw (le-leb 256 (length look) k, le-leb 1514 (length frame) h)
