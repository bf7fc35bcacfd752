-- A contract of the card fixes answer and end by one number: 0 and they are the step's, any other and they are the refusal's and what came in. Assumes nothing.
use mathlib.Core.Path.{◌≡◌, sym, ap, ◌∙◌}
use mathlib.Core.Bool.{false}
use mathlib.Core.List.{List}
use Prim.Native.Nat.{ℕ, zero, suc}
use native.Mathlib.Omega.{arith}
use Rattle.bits.proofs.Tests.{never}
use Rattle.card_rules.specs.declared.Card.{Card}
use Rattle.card_rules.specs.Adapter.{Adapter}
use Rattle.card_rules.specs.Calls.{Reply, refused, value, done, replying, Does, Call}
use Rattle.fits.specs.Agree.{End, shown, SameEnd, is_refusal}
use Rattle.fits.specs.Fits.{OneAnswer}

numbered : Reply → ℕ
numbered (refused n) = n
numbered done = 0
numbered (value v) = 0

-- the card and its memory as a call leaves them
abbrev Leaves : ℕ → Reply → Reply → Card → List ℕ → List ℕ → Adapter → End → Type 0
Leaves n x w c ram dir a e = Call n x w c e.card ram dir e.ram e.dir a

module _ (w : Reply) (plain : is_refusal w ≡ false) (c : Card) (ram dir : List ℕ) (a : Adapter) where
  same_end : (n : ℕ) (x x' : Reply) (e e' : End) → Leaves n x w c ram dir a e → Leaves n x' w c ram dir a e' → SameEnd (is_refusal x) e e'
  unfolding replying Does
  same_end zero x x' e e' k k' =
      record { shows = k.does.shows ∙ sym k'.does.shows; whole = λ y. never (sym plain ∙ (sym (ap is_refusal k.answer) ∙ y)) }
  same_end (suc n) x x' e e' k k' =
      let same : e ≡ e' =
      λ i. record {
        card = (k.does.0 ∙ sym k'.does.0) i;
        ram = (k.does.1 ∙ sym k'.does.1) i;
        dir = (k.does.2 ∙ sym k'.does.2) i;
      } in
      record { shows = ap shown same; whole = λ _. same }

  refused_when : (number : ℕ) (x : Reply) (e : End) → Leaves number x w c ram dir a e → (n : ℕ) → number ≡ suc n → x ≡ refused (suc n)
  unfolding replying
  refused_when number x e k n h = k.answer ∙ ap (λ (m : ℕ). replying m w) h

  refused-only : (number : ℕ) (x : Reply) (e : End) → Leaves number x w c ram dir a e → (n : ℕ) → x ≡ refused n → (number ≡ n) × (n ≡ 0 → ⊥)
  unfolding replying numbered
  refused-only zero x e k n h = never (sym plain ∙ (sym (ap is_refusal k.answer) ∙ ap is_refusal h))
  refused-only (suc m) x e k n h =
      let same : suc m ≡ n = ap numbered (sym k.answer ∙ h) in
      (same, (λ z. omega arith))

  pub one_answer : {A : Type 0} (number : ℕ) (reply : A → Reply) (end : A → End) (meets : A → Type 0)
      → ((r : A) → meets r → Leaves number (reply r) w c ram dir a (end r)) → OneAnswer number reply end meets
  one_answer number reply end meets call =
      record {
        answer = λ r r' k k'. (call r k).answer ∙ sym (call r' k').answer;
        ends = λ r r' k k'. same_end number (reply r) (reply r') (end r) (end r') (call r k) (call r' k');
        refused_when = λ r k. refused_when number (reply r) (end r) (call r k);
        refused_only_when = λ r k. refused-only number (reply r) (end r) (call r k);
      }
