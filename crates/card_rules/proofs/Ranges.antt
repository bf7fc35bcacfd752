-- What the test of the registers tells. Assumes nothing.
use mathlib.Core.Path.{◌≡◌}
use mathlib.Core.Bool.{true}
use Prim.Native.Nat.{ℕ, ◌+◌, ◌≤◌}
use native.Mathlib.Omega.{arith}
use borrow.Author.Tests.{leb-true}
use lib.Dec.{eqb}
use Rattle.bits.proofs.Tests.{both, by_test}
use Rattle.card_rules.specs.declared.Select.{Select}
use Rattle.card_rules.specs.Sound.{select_sound}
use Rattle.card_rules.specs.Room.{tx_size, rx_size}

pub window-small : (s : Select) → select_sound s ≡ true → s.window ≤ 7
unfolding select_sound
window-small s h = leb-true s.window 7 (both _ _ h).0

-- ---- the two parts of the RAM

module _ (split : ℕ) where
  pub tx-small : tx_size split ≤ 4096
  unfolding tx_size
  tx-small = by_test (eqb split 1) (λ y. rw y (omega arith)) (λ n. by_test (eqb split 2) (λ y. rw (n, y) (omega arith)) (λ m. rw (n, m) (omega arith)))

  pub rx-small : rx_size split ≤ 6144
  unfolding rx_size
  rx-small = by_test (eqb split 1) (λ y. rw y (omega arith)) (λ n. by_test (eqb split 2) (λ y. rw (n, y) (omega arith)) (λ m. rw (n, m) (omega arith)))

  -- they are the whole RAM
  pub whole-ram : rx_size split + tx_size split ≡ 8192
  unfolding tx_size rx_size
  whole-ram = by_test (eqb split 1) (λ y. rw y) (λ n. by_test (eqb split 2) (λ y. rw (n, y)) (λ m. rw (n, m)))
