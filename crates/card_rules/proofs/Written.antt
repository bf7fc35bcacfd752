-- What a byte written comes to. Assumes nothing.
use mathlib.Core.Path.{◌≡◌, subst, subst⁻¹}
use mathlib.Core.Bool.{true}
use mathlib.Core.List.{List}
use Prim.Native.Nat.{ℕ, ◌+◌, ◌*◌}
use Rattle.card_rules.specs.declared.Card.{Card}
use Rattle.card_rules.specs.Adapter.{Adapter}
use Rattle.card_rules.specs.Update.{with_lines, lines_low}
use Rattle.card_rules.specs.Groups.{card_lines}
use Rattle.card_rules.specs.Sound.{sound}
use Rattle.card_rules.specs.View.{view, Sound, Is}
use Rattle.card_rules.proofs.Groups.{is_lines}
use Rattle.card_rules.specs.Command.{commanded}
use Rattle.card_rules.specs.declared.Lanes.{Lanes}
use Rattle.card_rules.specs.Write.{executed, write}

-- the held byte is no part of soundness
same-calm : (c : Card) (ram dir : List ℕ) (v : ℕ) → sound (view c ram dir) ≡ true → sound (view (card_lines (lines_low v c.lines) c) ram dir) ≡ true
unfolding view
same-calm c ram dir v s = s

pub held-sound : (c d : Card) (ram dir : List ℕ) (v : ℕ) → d ≡ card_lines (lines_low v c.lines) c → Sound c ram dir → Sound d ram dir
held-sound c d ram dir v e s = subst⁻¹ (λ (k : Card). Sound k ram dir) e (record { held = (is_lines c ram dir s.held (lines_low v c.lines)).held; calm = same-calm c ram dir v s.calm })

pub executes : (c d r : Card) (ram dir ram' dir' : List ℕ) (v w : ℕ) → d ≡ card_lines (lines_low 0 c.lines) c → w ≡ v * 256 + c.lines.low
    → Is r ram' dir' (commanded w (view d ram dir)) → Is r ram' dir' (executed v (view c ram dir))
unfolding view
executes c d r ram dir ram' dir' v w e f i =
    subst (λ (n : ℕ). Is r ram' dir' (commanded n (with_lines (lines_low 0 c.lines) (view c ram dir)))) f
    (subst (λ (k : Card). Is r ram' dir' (commanded w (view k ram dir))) e i)

-- a byte written, as the word that it is
pub byte_as : (r : Card) (ram dir : List ℕ) (l : Lanes) (o n m : ℕ) (b : Adapter) → n ≡ m → Is r ram dir (write l o n b) → Is r ram dir (write l o m b)
byte_as r ram dir l o n m b e i = subst (λ (k : ℕ). Is r ram dir (write l o k b)) e i
