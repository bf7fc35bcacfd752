-- `store::append_bytes` meets its contract: after i turns i bytes are appended. Assumes nothing.
use Prim.Native.Nat.{◌-◌}
use lib.ListN.{length}
use Rattle.store.proofs.Lift.{Sofar}
use Rattle.store.proofs.append_bytes.Given as goal

abbrev pub invariant-loop-i : goal.invariant-loop-i
invariant-loop-i l = Sofar l.a l.count l.at l.i l.bytes l.initial.ram l.initial.dir l.ram l.dir

abbrev pub decreases-loop-i : goal.decreases-loop-i
decreases-loop-i l = length l.bytes - l.i
