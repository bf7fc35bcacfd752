-- A contract of the driver fixes answer, driver, count and areas by the run of the call's tree; the end is the run's, or what came in where the call is refused. Assumes nothing.
use Rattle.std.specs.Prelude.{Result, Ok, Err, ⊤}
use mathlib.Core.Path.{◌≡◌, refl, sym, ap, subst⁻¹, ◌∙◌}
use mathlib.Core.Bool.{Bool, true, false, ◌&&◌}
use mathlib.Core.List.{List}
use Prim.Native.Nat.{ℕ}
use Rattle.refusal.specs.declared.Refusal.{Refusal}
use Rattle.refusal.specs.declared.Refusal.TheVariants.{CardUnfit}
use Rattle.bits.proofs.Tests.{by_test, never}
use Rattle.card_rules.specs.declared.Card.{Card}
use Rattle.card_rules.specs.Adapter.{Adapter}
use Rattle.card_rules.specs.View.{view, Stands}
use Rattle.driver_rules.specs.declared.Driver.{Driver}
use Rattle.driver_rules.specs.Talk.{Talk, Ran, run}
use Rattle.driver_rules.specs.declared.Item.{Item}
use Rattle.driver_rules.specs.Items.{Serving}
use Rattle.driver_rules.specs.declared.Serviced.{Serviced}
use Rattle.driver_rules.specs.Open as opens
use Rattle.driver_rules.specs.declared.After.{After}
use Rattle.driver_rules.specs.Send as sends
use Rattle.driver_rules.specs.Paper.{open_paper, send_paper, service_paper}
use Rattle.driver_rules.specs.Calls.{sound_state, large, service_call, Opens, Sends, Services}
use Rattle.driver_rules.proofs.Ways.{begun-look, five_keeps}
use Rattle.fits.specs.Agree.{With, WithAreas, End, shown, SameEnd, is_refused, SameLeft}
use Rattle.fits.specs.Fits.{opened, sent, served, DriverCalls}
use Rattle.fits.proofs.Service.{Ways, of_look}

-- ---- taken or kept, by one test

abbrev Keeps : Card → List ℕ → List ℕ → End → Type 0
Keeps c ram dir e = (e.card ≡ c) × ((e.ram ≡ ram) × (e.dir ≡ dir))

abbrev Takes : Adapter → End → Type 0
Takes a e = Stands e.card e.ram e.dir a

module _ (c : Card) (ram dir : List ℕ) (a : Adapter) (e e' : End) where
  kept_same : Keeps c ram dir e → Keeps c ram dir e' → e ≡ e'
  kept_same k k' i = record { card = (k.0 ∙ sym k'.0) i; ram = (k.1.0 ∙ sym k'.1.0) i; dir = (k.1.1 ∙ sym k'.1.1) i }

  same_ends : (b : Bool) → (b ≡ false → Takes a e) → (b ≡ true → Keeps c ram dir e) → (b ≡ false → Takes a e') → (b ≡ true → Keeps c ram dir e') → SameEnd b e e'
  same_ends true t k t' k' = let same : e ≡ e' = kept_same (k refl) (k' refl) in record { shows = ap shown same; whole = λ _. same }
  same_ends false t k t' k' = record { shows = (t refl).shows ∙ sym (t' refl).shows; whole = λ y. never y }

open_refused : (x : Result ⊤ Refusal) → is_refused (open_paper x) ≡ opens.refusing x
open_refused (Ok _) = refl
open_refused (Err why) = refl

send-refused : (x : Result ℕ Refusal) → is_refused (send_paper x) ≡ sends.refusing x
send-refused (Ok n) = refl
send-refused (Err why) = refl

-- ---- a service that is begun is refused 5 or goes short of budget; it has no other refusal

abbrev Fivefold : Serving → Type 0
Fivefold x = (used : ℕ) → is_refused (service_paper x.answer used) ≡ true → x.answer ≡ Err CardUnfit

five_only : Ways Fivefold
five_only =
    record {
      budget-short = λ d used y. never y;
      card-unfit = λ d used y. refl;
      reported = λ t s d used y. never y;
      status = λ s d used y. never y;
      idle = λ d used y. never y;
      frame = λ n d bytes e used y. never y;
    }

-- ---- the calls

module _ (c : Card) (ram dir : List ℕ) (d : Driver) where
  same-opened : (w₀ w₁ w₂ : ℕ) (r r' : With (After ⊤)) → Opens c ram dir d w₀ w₁ w₂ r.result r.ram r.dir → Opens c ram dir d w₀ w₁ w₂ r'.result r'.ram r'.dir → SameLeft (opened r) (opened r')
  same-opened w₀ w₁ w₂ r r' k k' =
      let x : r.result.answer ≡ r'.result.answer = k.answer ∙ sym k'.answer in
      let b : is_refused (open_paper r.result.answer) ≡ opens.refusing r.result.answer = open_refused r.result.answer in
      let b' : is_refused (open_paper r.result.answer) ≡ opens.refusing r'.result.answer = b ∙ ap opens.refusing x in
      record {
        answer = ap open_paper x;
        driver = k.driver ∙ sym k'.driver;
        ends = same_ends c ram dir _ (opened r).end (opened r').end _ (λ y. k.taken (sym b ∙ y)) (λ y. k.kept (sym b ∙ y)) (λ y. k'.taken (sym b' ∙ y)) (λ y. k'.kept (sym b' ∙ y));
      }

  same_sent : (packet : List ℕ) (r r' : With (After ℕ)) → Sends c ram dir d packet r.result r.ram r.dir → Sends c ram dir d packet r'.result r'.ram r'.dir → SameLeft (sent r) (sent r')
  same_sent packet r r' k k' =
      let x : r.result.answer ≡ r'.result.answer = k.answer ∙ sym k'.answer in
      let b : is_refused (send_paper r.result.answer) ≡ sends.refusing r.result.answer = send-refused r.result.answer in
      let b' : is_refused (send_paper r.result.answer) ≡ sends.refusing r'.result.answer = b ∙ ap sends.refusing x in
      record {
        answer = ap send_paper x;
        driver = k.driver ∙ sym k'.driver;
        ends = same_ends c ram dir _ (sent r).end (sent r').end _ (λ y. k.taken (sym b ∙ y)) (λ y. k.kept (sym b ∙ y)) (λ y. k'.taken (sym b' ∙ y)) (λ y. k'.kept (sym b' ∙ y));
      }

  module _ (budget : ℕ) (look frame : List ℕ) where
    abbrev Serves : WithAreas Serviced → Type 0
    Serves r = Services c ram dir d budget look frame r.result r.ram r.dir r.look r.frame

    abbrev begun : Bool
    begun = sound_state c ram dir d && (d.opened && large look frame)

    abbrev R : Ran Serving
    R = run (service_call (sound_state c ram dir d) (large look frame) d budget) (view c ram dir)

    unfit-only : begun ≡ true → Fivefold R.answer
    unfit-only y =
        subst⁻¹ (λ (t : Talk Serving). Fivefold (run t (view c ram dir)).answer)
        (begun-look (sound_state c ram dir d) (large look frame) d budget y) (of_look Fivefold five_only budget d (view c ram dir))

    keeps : (r : WithAreas Serviced) → Serves r → begun ≡ true → R.answer.answer ≡ Err CardUnfit → Keeps c ram dir (served r).end
    keeps r = five_keeps c ram dir d budget look frame r.result r.ram r.dir r.look r.frame

    same-served : (r r' : WithAreas Serviced) → Serves r → Serves r' → SameLeft (served r) (served r')
    same-served r r' k k' =
        let x : r.result.answer ≡ r'.result.answer = k.answer ∙ sym k'.answer in
        let u : r.result.used ≡ r'.result.used = k.used ∙ sym k'.used in
        record {
          answer = λ i. service_paper (x i) (u i);
          driver = k.driver ∙ sym k'.driver;
          ends =
              by_test begun
              (λ y. record {
                shows = (k.taken y).shows ∙ sym (k'.taken y).shows;
                whole = λ n.
                    let five : R.answer.answer ≡ Err CardUnfit = unfit-only y r.result.used (ap (λ (z : Result Item Refusal). is_refused (service_paper z r.result.used)) (sym k.answer) ∙ n) in
                    kept_same c ram dir (view c ram dir) (served r).end (served r').end (keeps r k y five) (keeps r' k' y five);
              })
              (λ n.
              let same : (served r).end ≡ (served r').end = kept_same c ram dir (view c ram dir) (served r).end (served r').end (k.kept n) (k'.kept n) in
              record { shows = ap shown same; whole = λ _. same });
        }

  pub driver-calls : DriverCalls c ram dir d
  driver-calls =
      record {
        «open» = same-opened;
        send = same_sent;
        service = same-served;
        service_used = λ budget look frame r r' k k'. k.used ∙ sym k'.used;
        service_areas = λ budget look frame r r' k k'. (k.lookahead ∙ sym k'.lookahead, k.frames ∙ sym k'.frames);
      }
