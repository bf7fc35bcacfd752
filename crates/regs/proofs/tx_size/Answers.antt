-- `regs::tx_size` meets its contract: the split picks the size. Assumes nothing.
use lib.Dec.{lit≤}
use native.Mathlib.Omega.{arith}
use Prim.Native.Nat.{◌%◌}
use borrow.Author.Tests.{ne_eqb}
use Rattle.card_rules.specs.Room.{tx_size}
use Rattle.regs.proofs.tx_size.Goals as goal

pub returns-in-1 : goal.returns-in-1
unfolding tx_size
returns-in-1 c = (rw c.in-1.is, lit≤ tt)

pub returns-in-2 : goal.returns-in-2
unfolding tx_size
returns-in-2 c = (rw c.in-2.is, lit≤ tt)

pub returns-in_default : goal.returns-in_default
unfolding tx_size
returns-in_default c =
    let s = c.args.second % 4 in
    (rw (ne_eqb s 1 (λ e. omega (arith, c.in_default)), ne_eqb s 2 (λ e. omega (arith, c.in_default))), lit≤ tt)
