-- `regs::interrupt_line` meets its contract: its test is the definition's, read from the card. Assumes nothing.
use mathlib.Core.Path.{◌≡◌, refl}
use mathlib.Core.Bool.{Bool, true, false, cond}
use Prim.Native.Nat.{ℕ}
use Rattle.card_rules.specs.Line.{interrupt_line}
use Rattle.card_rules.specs.View.{view}
use Rattle.regs.proofs.interrupt_line.Goals as goal

driven : (test : Bool) (line : ℕ) → test ≡ true → line ≡ cond test line 0
driven test line e = rw e refl

undriven : (test : Bool) (line : ℕ) → test ≡ false → 0 ≡ cond test line 0
undriven test line e = rw e refl

pub returns-then-c-driving : goal.returns-then-c-driving
unfolding interrupt_line view
returns-then-c-driving c = λ ram dir. driven _ _ (rw c.is_line.ensures at c.if-c-driving.true)

pub returns : goal.returns
unfolding interrupt_line view
returns c = λ ram dir. undriven _ _ (rw c.is_line.ensures at c.if-c-driving.false)
