-- What a call says is a chain of tests, each with its number; so a number is said exactly when its own test holds and none before it. Assumes nothing.
use mathlib.Core.Path.{◌≡◌, refl, sym, ap, ◌∙◌}
use mathlib.Core.Logic.{◌↔◌}
use mathlib.Core.Bool.{Bool, true, false, cond, not}
use Prim.Native.Nat.{ℕ}
use borrow.Author.Tests.{eqb-false}
use lib.Dec.{eqb}
use Rattle.bits.proofs.Tests.{of_cond, never}
use Rattle.driver_rules.specs.Paper as paper
use Rattle.driver_rules.specs.Paper.{Paper, refused}

-- the number of a refusal, 0 of another answer
abbrev pub number : Paper → ℕ
number paper.opened = 0
number (paper.ticket n) = 0
number (paper.report t s used) = 0
number (paper.status_alone s used) = 0
number (paper.frame n used) = 0
number (paper.idle used) = 0
number (paper.short used) = 6
number (paper.refused n) = n

pub apart : (p q : Paper) → eqb (number p) (number q) ≡ false → p ≡ q → ⊥
apart p q h e = eqb-false (number p) (number q) h (ap number e)

module _ (b : Bool) (m : ℕ) (q : Paper) (other : eqb m (number q) ≡ false) where
  -- q is said neither by this test nor behind it
  pub nowhere : {rest : Paper} → (rest ≡ q → ⊥) → cond b (refused m) rest ≡ q → ⊥
  nowhere k = of_cond (λ (p : Paper). p ≡ q → ⊥) b (apart (refused m) q other) k

-- m is said by this test
pub here : (b : Bool) (m : ℕ) {rest : Paper} → (rest ≡ refused m → ⊥) → cond b (refused m) rest ≡ refused m ↔ b ≡ true
here true m k = (λ _. refl, λ _. refl)
here false m k = (λ e. absurd (k e), λ e. never e)

pub here-not : (b : Bool) (m : ℕ) {rest : Paper} → (rest ≡ refused m → ⊥) → cond (not b) (refused m) rest ≡ refused m ↔ b ≡ false
here-not true m k = (λ e. absurd (k e), λ e. never (sym e))
here-not false m k = (λ _. refl, λ _. refl)

-- q is said behind it
pub behind : (b : Bool) (m : ℕ) (q : Paper) {rest : Paper} {P : Type 0} → eqb m (number q) ≡ false → (rest ≡ q ↔ P) → cond b (refused m) rest ≡ q ↔ (b ≡ false) × P
behind true m q h k = (λ e. absurd (apart (refused m) q h e), λ p. never (sym p.0))
behind false m q h k = (λ e. (refl, k.0 e), λ p. k.1 p.1)

pub behind-not : (b : Bool) (m : ℕ) (q : Paper) {rest : Paper} {P : Type 0} → eqb m (number q) ≡ false → (rest ≡ q ↔ P) → cond (not b) (refused m) rest ≡ q ↔ (b ≡ true) × P
behind-not true m q h k = (λ e. (refl, k.0 e), λ p. k.1 p.1)
behind-not false m q h k = (λ e. absurd (apart (refused m) q h e), λ p. never p.0)

-- q is said where the last test does not hold
pub last : (b : Bool) (m : ℕ) (q : Paper) → eqb m (number q) ≡ false → cond b (refused m) q ≡ q ↔ b ≡ false
last true m q h = (λ e. absurd (apart (refused m) q h e), λ e. never (sym e))
last false m q h = (λ _. refl, λ _. refl)

pub last-not : (b : Bool) (m : ℕ) (q : Paper) → eqb m (number q) ≡ false → cond (not b) (refused m) q ≡ q ↔ b ≡ true
last-not true m q h = (λ _. refl, λ _. refl)
last-not false m q h = (λ e. absurd (apart (refused m) q h e), λ e. never e)

-- what is said is that chain
pub said : {p q x : Paper} {P : Type 0} → p ≡ q → (q ≡ x ↔ P) → p ≡ x ↔ P
said e k = (λ f. k.0 (sym e ∙ f), λ h. e ∙ k.1 h)
