-- `setup::write_all` meets its contract: the words before the loop's place are masked. Assumes nothing.
use mathlib.Core.Path.{◌≡◌}
use Prim.Native.Nat.{ℕ}
use lib.Bits.{bit_and}
use Rattle.bits.specs.UpTo.{up_to}
use Rattle.window_write.proofs.setup.write_all.Given as goal

abbrev pub masked : ℕ → ℕ → ℕ
masked mask w = bit_and w mask

abbrev pub invariant-loop-w : goal.invariant-loop-w
invariant-loop-w l = l.w-items ≡ up_to (masked l.i.shift) l.w-index l.initial.w-items
