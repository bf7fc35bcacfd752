-- A service that is done: with no discard made it never paused, so its one look is the whole of it. Assumes nothing.
use mathlib.Core.Path.{◌≡◌, refl, ap, sym, ◌∙◌}
use mathlib.Core.Bool.{true, false}
use mathlib.Core.List.{List}
use Prim.Native.Nat.{ℕ}
use Rattle.bits.proofs.Tests.{never}
use Rattle.card_rules.specs.declared.Card.{Card}
use Rattle.driver_rules.specs.Talk.{Ran}
use Rattle.driver_rules.specs.Items.{Serving}
use Rattle.driver_rules.specs.Serves.{discarded, stopped, Unmoved}

-- Q is what is left of the run R at c: all of it, if R makes no discard
pub record First (R Q : Ran Serving) (c₀ c : Card) (ram₀ dir₀ ram dir : List ℕ) : Type 0 where
  pub whole : discarded R.made ≡ false → (R ≡ Q) × ((c ≡ c₀) × ((ram ≡ ram₀) × (dir ≡ dir₀)))

pub first : (R : Ran Serving) (c : Card) (ram dir : List ℕ) → First R R c c ram dir ram dir
first R c ram dir = record { whole = λ _. (refl, (refl, (refl, refl))) }

module _ (R Q : Ran Serving) (c₀ c : Card) (ram₀ dir₀ ram dir : List ℕ) (F : First R Q c₀ c ram₀ dir₀ ram dir) where
  pub unmoved-done : (r : Card) (ram' dir' : List ℕ) → Unmoved Q c r ram dir ram' dir' → Unmoved R c₀ r ram₀ dir₀ ram' dir'
  unmoved-done r ram' dir' u =
      record {
        same = λ x n.
            let f = F.whole n in
            let p = u.same (ap (λ (T : Ran Serving). stopped T.answer.answer) (sym f.0) ∙ x) (ap (λ (T : Ran Serving). discarded T.made) (sym f.0) ∙ n) in
            (p.0 ∙ f.1.0, (p.1.0 ∙ f.1.1.0, p.1.1 ∙ f.1.1.1));
      }

  -- paused, the run has made a discard
  pub unmoved_more : discarded Q.made ≡ true → (Q' : Ran Serving) (c' : Card) (ram' dir' : List ℕ) → First R Q' c₀ c' ram₀ dir₀ ram' dir'
  unmoved_more y Q' c' ram' dir' =
      record { whole = λ n. never (sym n ∙ (ap (λ (T : Ran Serving). discarded T.made) (F.whole n).0 ∙ y)) }
