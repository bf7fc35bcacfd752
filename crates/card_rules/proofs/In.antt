-- The word at an offset, once the window is known. Assumes nothing.
use mathlib.Core.Path.{◌≡◌}
use Prim.Native.Nat.{ℕ}
use borrow.Author.Tests.{ne_eqb}
use Rattle.card_rules.specs.Adapter.{Adapter}
use Rattle.card_rules.specs.Read.{window0, window1, window2, window3, window5, word_at}

module _ (o : ℕ) (a : Adapter) (n : (o ≡ 0x0E → ⊥)) where
  pub in_0 : a.select.window ≡ 0 → word_at o a ≡ window0 o a
  unfolding word_at
  in_0 e = rw (ne_eqb _ _ n, e)

  pub in_1 : a.select.window ≡ 1 → word_at o a ≡ window1 o a
  unfolding word_at
  in_1 e = rw (ne_eqb _ _ n, e)

  pub in_2 : a.select.window ≡ 2 → word_at o a ≡ window2 o a
  unfolding word_at
  in_2 e = rw (ne_eqb _ _ n, e)

  pub in_3 : a.select.window ≡ 3 → word_at o a ≡ window3 o a
  unfolding word_at
  in_3 e = rw (ne_eqb _ _ n, e)

  pub in_5 : a.select.window ≡ 5 → word_at o a ≡ window5 o a
  unfolding word_at
  in_5 e = rw (ne_eqb _ _ n, e)
