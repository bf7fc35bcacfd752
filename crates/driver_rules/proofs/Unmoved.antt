-- Refused with no discard made, a part of a service changes nothing: Status and RX Status are read from a sound card, which stays as it was, and an item that lacks its accesses isn't begun.
-- Assumes nothing.
use Rattle.std.specs.Prelude.{Result, Option, Some, None}
use mathlib.Core.Path.{◌≡◌, refl, sym, ap, ◌∙◌}
use mathlib.Core.Bool.{Bool, true, false, ◌&&◌}
use mathlib.Core.List.{List, [], ◌∷◌}
use Prim.Native.Nat.{ℕ}
use lib.Dec.{ltb, eqb}
use Rattle.refusal.specs.declared.Refusal.{Refusal}
use Rattle.bits.proofs.Tests.{by_test, never, of_cond}
use Rattle.card_rules.specs.declared.Card.{Card}
use Rattle.card_rules.specs.Adapter.{Adapter}
use Rattle.card_rules.specs.View.{view, Sound}
use Rattle.card_rules.specs.Read.{word_at}
use Rattle.card_rules.specs.Access.{ReadWord, WriteWord, step, access}
use Rattle.card_rules.specs.Gives.{Gives}
use Rattle.card_rules.proofs.StepEnds.{gives-word, stands-ones}
use Rattle.driver_rules.specs.declared.Driver.{Driver}
use Rattle.driver_rules.specs.declared.Item.{Item}
use Rattle.driver_rules.specs.Talk.{Ran, extended}
use Rattle.driver_rules.specs.Items.{Serving, reports}
use Rattle.driver_rules.specs.Meets.{Ended}
use Rattle.driver_rules.specs.Serves.{discarded, stopped, Unmoved}

-- reading a word that isn't the data port's leaves a sound card as it was
reads_still : (o : ℕ) (c : Card) (ram dir : List ℕ) → (ltb o 4 && eqb c.select.window 1) ≡ false → Sound c ram dir → (access (ReadWord o) (view c ram dir)).adapter ≡ view c ram dir
reads_still o c ram dir n s =
    by_test c.id.active
    (λ e. sym (gives-word c ram dir s o (word_at o (view c ram dir)) e n refl).stands.shows)
    (λ e. sym (stands-ones c ram dir s (ReadWord o) e).shows)

pub as_came : (o : ℕ) (c : Card) (ram dir : List ℕ) {r : Card} {v : ℕ} → (ltb o 4 && eqb c.select.window 1) ≡ false → Sound c ram dir
    → Gives r v ram dir (access (ReadWord o) (view c ram dir)) → access (ReadWord o) (view c ram dir) ≡ step v (view c ram dir)
as_came o c ram dir n s g = λ i. record { value = sym g.value i; adapter = reads_still o c ram dir n s i }

-- an answer that is there is a refusal
abbrev stops_with : Option (Result Item Refusal) → Bool
stops_with None = true
stops_with (Some x) = stopped x

-- a report is no refusal
pub report_goes : (status : ℕ) (d : Driver) → stopped (reports status d).answer ≡ false
unfolding reports
report_goes status d = of_cond (λ (x : Serving). stopped x.answer ≡ false) (ltb 0 d.unreported) refl refl

-- what was handed in is handed back
pub stays : (R : Ran Serving) (c : Card) (ram dir : List ℕ) → Unmoved R c c ram dir ram dir
stays R c ram dir = record { same = λ _ _. (refl, (refl, refl)) }

module _ (c r : Card) (ram dir ram' dir' : List ℕ) where
  -- an item that is begun is no refusal
  pub begun : {left more : ℕ} {R : Ran Serving} {d : Driver} {e : Card} {x : Result Item Refusal} {s : Adapter} {l₀ f₀ l f : List ℕ}
      → Ended left R (record { driver = d; card = e; answer = Some x; left = more }) s l₀ f₀ l f → stopped x ≡ false → Unmoved R c r ram dir ram' dir'
  begun t g = record { same = λ y _. never (sym (sym (ap stops_with t.answer) ∙ g) ∙ y) }

  -- a word was read before
  pub after_read_lem : (R Q : Ran Serving) (o : ℕ) → R ≡ extended (ReadWord o ∷ []) Q → Unmoved Q c r ram dir ram' dir' → Unmoved R c r ram dir ram' dir'
  unfolding discarded
  after_read_lem R Q o e u = rw e (record { same = u.same })

  -- a bad frame was discarded
  pub after-discard : (R Q : Ran Serving) → R ≡ extended (ReadWord 8 ∷ (WriteWord 14 16384 ∷ [])) Q → Unmoved R c r ram dir ram' dir'
  unfolding discarded
  after-discard R Q e = rw e (record { same = λ _ n. never (sym n) })
