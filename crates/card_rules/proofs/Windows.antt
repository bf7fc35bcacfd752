-- A write to the selected window is a write to that window. Assumes nothing.
use mathlib.Core.Path.{◌≡◌, subst⁻¹}
use mathlib.Core.Bool.{cond}
use mathlib.Core.List.{List}
use Prim.Native.Nat.{ℕ}
use lib.Dec.{eqb}
use Rattle.card_rules.specs.declared.Card.{Card}
use Rattle.card_rules.specs.Adapter.{Adapter}
use Rattle.card_rules.specs.View.{Is}
use Rattle.card_rules.specs.declared.Lanes.{Lanes}
use Rattle.card_rules.specs.Write.{write0, write1, write2, write3, write}

module _ (r : Card) (ram dir : List ℕ) (l : Lanes) (o v : ℕ) (a : Adapter) where
  -- a write to window w
  abbrev pub within : ℕ → Adapter
  within w =
      cond (eqb w 0) (write0 l o v a)
      (cond (eqb w 1) (write1 l o v a)
      (cond (eqb w 2) (write2 l o v a)
      (cond (eqb w 3) (write3 l o v a) a)))

  pub selected : (w : ℕ) → a.select.window ≡ w → Is r ram dir (within w) → Is r ram dir (write l o v a)
  unfolding write
  selected w e i = subst⁻¹ (λ (n : ℕ). Is r ram dir (within n)) e i
