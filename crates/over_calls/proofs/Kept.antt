-- By the ways that a service ends. Assumes nothing.
use Rattle.std.specs.Prelude.{Result, Ok, Err}
use mathlib.Core.Path.{◌≡◌, refl, ap, sym, ◌∙◌, subst⁻¹}
use mathlib.Core.Bool.{Bool, true, false, cond, not, ◌&&◌, ◌||◌}
use mathlib.Core.List.{List, [], ◌∷◌}
use Prim.Native.Nat.{ℕ, zero, suc, ◌/◌, ◌%◌, ◌+◌}
use lib.Dec.{ltb, eqb}
use Rattle.refusal.specs.declared.Refusal.{Refusal}
use Rattle.refusal.specs.declared.Refusal.TheVariants.{CardUnfit, NeverOpened, AreaShort, BudgetShort}
use Rattle.bits.proofs.Tests.{of_cond, never, by_test}
use Rattle.card_rules.specs.declared.Card.{Card}
use Rattle.card_rules.specs.Adapter.{Adapter}
use Rattle.card_rules.specs.View.{view}
use Rattle.card_rules.specs.Access.{Access, access}
use Rattle.driver_rules.specs.declared.Driver.{Driver}
use Rattle.driver_rules.specs.Registers.{unfit, tx_complete, rx_complete, bad, length_in}
use Rattle.driver_rules.specs.Talk.{Talk, done, ask, run, read_words}
use Rattle.driver_rules.specs.Driver.{with_error}
use Rattle.driver_rules.specs.declared.Item.TheVariants as serving
use Rattle.driver_rules.specs.declared.Item.{Item}
use Rattle.driver_rules.specs.Items.{Serving, plain, short, is_error, seen, reports, report_talk, idle_talk, fetch_talk, words_in}
use Rattle.driver_rules.specs.Areas.{in_look, in_frame}
use Rattle.driver_rules.specs.Service.{look_talk, receive_talk, drop_talk}
use Rattle.driver_rules.specs.declared.Serviced.{Serviced}
use Rattle.driver_rules.specs.Serves.{discarded, stopped}
use Rattle.driver_rules.specs.Paper.{service_paper}
use Rattle.driver_rules.specs.Calls.{sound_state, large, service_call, Services}
use Rattle.driver_rules.proofs.Ways.{five_keeps}
use Rattle.fits.specs.Agree.{is_refused}
use Rattle.over_calls.specs.Kept.{Left, AsItCame, made, ARefusedServiceChangesNothing, AServiceShortOfBudgetLeavesDriverAndAreas, AServiceShortOfABudgetBelow3ChangesNothing}
use Rattle.over_calls.proofs.Few.{few}

-- a refusal that changes nothing stops a service
no_of : (x : Result Item Refusal) (used : ℕ) → is_refused (service_paper x used) ≡ true → stopped x ≡ true
no_of (Ok (serving.Reported t s)) used e = never e
no_of (Ok (serving.Status s)) used e = never e
no_of (Ok (serving.Frame n)) used e = never e
no_of (Ok serving.Idle) used e = never e
no_of (Err why) used e = refl

-- refused, a service hands up nothing and leaves the driver; if it was begun and not short of budget, it was refused 5
pub record Kept (d : Driver) (x : Serving) : Type 0 where
  driver : x.driver ≡ d
  bytes : x.bytes ≡ []
  five : (used : ℕ) → is_refused (service_paper x.answer used) ≡ true → x.answer ≡ Err CardUnfit

abbrev P : Driver → Serving → Type 0
P d x = stopped x.answer ≡ true → Kept d x

-- short of budget
of_short : (d : Driver) → P d (short d)
of_short d y = record { driver = refl; bytes = refl; five = λ used z. never z }

module _ (d : Driver) where
  abbrev Always : Talk Serving → Type 0
  Always t = (a : Adapter) → P d (run t a).answer

  ends : (x : Serving) → P d x → Always (done x)
  unfolding run
  ends x p a = p

  asks : (x : Access) (next : ℕ → Talk Serving) → ((v : ℕ) → Always (next v)) → Always (ask x next)
  unfolding run
  asks x next h a = h (access x a).value (access x a).adapter

  words : (m : ℕ) (next : List ℕ → Talk Serving) → ((bytes : List ℕ) → Always (next bytes)) → Always (read_words m next)
  unfolding read_words
  words zero next h = h []
  words (suc m) next h = asks _ _ (λ v. words m (λ bytes. next (v % 256 ∷ (v / 256 ∷ bytes))) (λ bytes. h (v % 256 ∷ (v / 256 ∷ bytes))))

  of_reports : (s : ℕ) (e : Driver) → P d (reports s e)
  unfolding reports
  of_reports s e = of_cond (P d) (ltb 0 e.unreported) (λ y. never y) (λ y. never y)

  of_report : (left : ℕ) → Always (report_talk left d)
  unfolding report_talk
  of_report left =
      of_cond Always (ltb left 4) (ends _ (of_short d))
      (asks _ _ (λ s. asks _ _ (λ _. asks _ _ (λ next.
      of_cond Always ((d.error || is_error s) && eqb next 0)
      (asks _ _ (λ _. ends _ (of_reports s (with_error false d))))
      (ends _ (of_reports s (seen d s)))))))

  of_idle : (left : ℕ) → Always (idle_talk left d)
  unfolding idle_talk
  of_idle zero = ends _ (of_short d)
  of_idle (suc left) = asks _ _ (λ _. ends _ (λ y. never y))

  of_fetch : (left : ℕ) (n : ℕ) → Always (fetch_talk left d n)
  unfolding fetch_talk
  of_fetch left n =
      of_cond Always (ltb left (words_in n + 1)) (ends _ (of_short d))
      (words (words_in n) _ (λ bytes. asks _ _ (λ _. ends _ (λ y. never y))))

  mutual
    unfolding look_talk

    of_look : (left : ℕ) → Always (look_talk left d)
    of_look zero = ends _ (of_short d)
    of_look (suc left) =
        asks _ _ (λ s. of_cond Always (unfit s) (ends _ (λ y. record { driver = refl; bytes = refl; five = λ used z. refl }))
        (of_cond Always (tx_complete s) (of_report left)
        (of_cond Always (rx_complete s) (of_receive left) (of_idle left))))

    of_receive : (left : ℕ) → Always (receive_talk left d)
    of_receive zero = ends _ (of_short d)
    of_receive (suc left) = asks _ _ (λ rx. of_cond Always (bad rx) (of_drop left) (of_fetch left (length_in rx)))

    of_drop : (left : ℕ) → Always (drop_talk left d)
    of_drop zero = ends _ (of_short d)
    of_drop (suc left) = asks _ _ (λ _. of_look left)

-- not begun: the same without the number
record Still (d : Driver) (x : Serving) : Type 0 where
  driver : x.driver ≡ d
  bytes : x.bytes ≡ []

abbrev Q : Bool → Driver → Serving → Type 0
Q begun d x = stopped x.answer ≡ true → Still d x × ((used : ℕ) → is_refused (service_paper x.answer used) ≡ true → begun ≡ true → x.answer ≡ Err CardUnfit)

whole : (s o l : Bool) (d : Driver) (budget : ℕ) (a : Adapter) → d.opened ≡ o → Q (s && (o && l)) d (run (service_call s l d budget) a).answer
unfolding service_call run
whole false o l d budget a e = λ y. (record { driver = refl; bytes = refl }, λ used z t. never t)
whole true false l d budget a e =
    subst⁻¹ (λ (v : Bool). Q false d (run (cond (not v) (done (plain (Err NeverOpened) d)) (cond (not l) (done (plain (Err AreaShort) d)) (look_talk budget d))) a).answer) e
    (λ y. (record { driver = refl; bytes = refl }, λ used z t. never t))
whole true true false d budget a e =
    subst⁻¹ (λ (v : Bool). Q false d (run (cond (not v) (done (plain (Err NeverOpened) d)) (done (plain (Err AreaShort) d))) a).answer) e
    (λ y. (record { driver = refl; bytes = refl }, λ used z t. never t))
whole true true true d budget a e =
    subst⁻¹ (λ (v : Bool). Q true d (run (cond (not v) (done (plain (Err NeverOpened) d)) (look_talk budget d)) a).answer) e
    (λ y. let k = of_look d budget a y in (record { driver = k.driver; bytes = k.bytes }, λ used z t. k.five used z))

-- what the run of a refused call leaves of driver and areas
module _ (c : Card) (ram dir : List ℕ) (d : Driver) (budget : ℕ) (look frame : List ℕ) (r : Serviced) (ram' dir' look' frame' : List ℕ) (k : Services c ram dir d budget look frame r ram' dir' look' frame') where
  abbrev b : Bool
  b = sound_state c ram dir d && (d.opened && large look frame)

  ran : stopped r.answer ≡ true → Still d (run (service_call (sound_state c ram dir d) (large look frame) d budget) (view c ram dir)).answer × ((used : ℕ) → is_refused (service_paper (run (service_call (sound_state c ram dir d) (large look frame) d budget) (view c ram dir)).answer.answer used) ≡ true → b ≡ true → (run (service_call (sound_state c ram dir d) (large look frame) d budget) (view c ram dir)).answer.answer ≡ Err CardUnfit)
  ran y = whole (sound_state c ram dir d) d.opened (large look frame) d budget (view c ram dir) refl (ap stopped (sym k.answer) ∙ y)

  left : stopped r.answer ≡ true → Left d look frame r look' frame'
  unfolding in_look in_frame
  left y =
      let w = (ran y).0 in
      record {
        driver = k.driver ∙ w.driver;
        lookahead = k.lookahead ∙ ap (λ (x : List ℕ). in_look x look) w.bytes;
        frames = k.frames ∙ ap (λ (x : List ℕ). in_frame x frame) w.bytes;
      }

  pub as_it_came : is_refused (service_paper r.answer r.used) ≡ true → AsItCame c ram dir d look frame r ram' dir' look' frame'
  as_it_came y =
      let n = no_of r.answer r.used y in
      let kept : (r.card ≡ c) × ((ram' ≡ ram) × (dir' ≡ dir)) =
      by_test b (λ t. five_keeps c ram dir d budget look frame r ram' dir' look' frame' k t ((ran n).1 r.used (ap (λ (z : Result Item Refusal). is_refused (service_paper z r.used)) (sym k.answer) ∙ y) t)) k.kept in
      record { card = kept.0; memory = kept.1.0; directory = kept.1.1; left = left n }

  pub nothing-made : r.answer ≡ Err BudgetShort → discarded (made c ram dir d budget look frame) ≡ false → AsItCame c ram dir d look frame r ram' dir' look' frame'
  nothing-made e n =
      let kept : (r.card ≡ c) × ((ram' ≡ ram) × (dir' ≡ dir)) = by_test b (λ t. (k.unmoved t).same (ap stopped (sym k.answer ∙ e)) n) k.kept in
      record { card = kept.0; memory = kept.1.0; directory = kept.1.1; left = left (ap stopped e) }

pub changes_nothing : ARefusedServiceChangesNothing
changes_nothing c ram dir d budget look frame r ram' dir' look' frame' k y = as_it_came c ram dir d budget look frame r ram' dir' look' frame' k y

pub leaves_driver_and_areas : AServiceShortOfBudgetLeavesDriverAndAreas
leaves_driver_and_areas c ram dir d budget look frame r ram' dir' look' frame' k e =
    (left c ram dir d budget look frame r ram' dir' look' frame' k (ap stopped e), nothing-made c ram dir d budget look frame r ram' dir' look' frame' k e)

pub below_three : AServiceShortOfABudgetBelow3ChangesNothing
below_three c ram dir d budget look frame r ram' dir' look' frame' k e h =
    nothing-made c ram dir d budget look frame r ram' dir' look' frame' k e (few (sound_state c ram dir d) (large look frame) d budget h (view c ram dir))
