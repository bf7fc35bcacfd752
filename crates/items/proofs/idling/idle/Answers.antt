-- `idling::idle`: budget short, or the acknowledge of `idle_talk`. Assumes nothing.
use Rattle.std.specs.Prelude.{Ok, Err}
use mathlib.Core.Path.{◌≡◌, refl}
use mathlib.Core.List.{[], ◌∷◌}
use Prim.Native.Nat.{ℕ, zero, suc, ◌-◌}
use native.Mathlib.Omega.{arith}
use Rattle.refusal.specs.declared.Refusal.TheVariants.{BudgetShort}
use Rattle.card_rules.specs.declared.Card.{Card}
use Rattle.card_rules.specs.Adapter.{Adapter}
use Rattle.card_rules.specs.Access.{WriteWord, step, access}
use Rattle.driver_rules.specs.declared.Driver.{Driver}
use Rattle.driver_rules.specs.declared.Item.TheVariants.{Idle}
use Rattle.driver_rules.specs.Talk.{run}
use Rattle.driver_rules.specs.Items.{idle_talk}
use Rattle.driver_rules.specs.Meets.{Tells}
use Rattle.driver_rules.proofs.Runs.{wrote}
use Rattle.driver_rules.proofs.ItemWays.{answered, stops}
use Rattle.driver_rules.proofs.Unmoved as unmoved
use Rattle.items.proofs.idling.idle.Goals as goal

none : (left : ℕ) (d : Driver) (c : Card) (s : Adapter) → left ≡ 0 → Tells left (run (idle_talk left d) s) (answered d c (Err BudgetShort) left) s
unfolding run idle_talk
none left d c s e = stops left _ (Err BudgetShort) d [] s c left (rw e) (omega arith)

done : (left : ℕ) (d : Driver) (c : Card) (s s₁ : Adapter) (v : ℕ) → (left ≡ 0 → ⊥) → access (WriteWord 14 26729) s ≡ step v s₁
    → Tells left (run (idle_talk left d) s) (answered d c (Ok Idle) (left - 1)) s₁
unfolding run idle_talk
done zero d c s s₁ v h e = absurd (h refl)
done (suc k) d c s s₁ v h e = stops (suc k) _ (Ok Idle) d (WriteWord 14 26729 ∷ []) s₁ c (suc k - 1) (rw e) (omega arith)

pub returns-then-left-eq0 : goal.returns-then-left-eq0
returns-then-left-eq0 c =
    rw c.short.ensures (none c.args.left _ _ _ c.if-left-eq0.true, (c.requires, unmoved.stays _ _ _ _))

pub returns : goal.returns
returns c =
    rw c.ended.ensures (let t = done c.args.left _ _ _ _ _ c.if-left-eq0.false (wrote _ c.write_word-end.ensures) in (t, (c.write_word-end.ensures.sound, unmoved.begun _ _ _ _ _ _ (t [] []) refl)))
