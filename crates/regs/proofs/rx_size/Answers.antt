-- `regs::rx_size` meets its contract: in each split the receiver has what the transmitter leaves. Assumes nothing.
use mathlib.Core.Path.{◌≡◌, refl}
use mathlib.Core.Bool.{Bool, true, false, cond}
use Prim.Native.Nat.{◌-◌, ◌%◌, ◌≤◌}
use native.Mathlib.Omega.{arith}
use lib.Dec.{eqb}
use Rattle.card_rules.specs.Room.{tx_size, rx_size}
use Rattle.regs.proofs.rx_size.Goals as goal

rest : (a b : Bool) → (8192 - cond a 2048 (cond b 4096 3072) ≡ cond a 6144 (cond b 4096 5120)) × (8192 - cond a 2048 (cond b 4096 3072) ≤ 6144)
rest true b = (refl, omega arith)
rest false true = (refl, omega arith)
rest false false = (refl, omega arith)

pub returns : goal.returns
unfolding tx_size rx_size
returns c = let s = c.args.second % 4 in rw c.tx_size.ensures.0 (rest (eqb s 1) (eqb s 2))
