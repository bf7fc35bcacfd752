-- `store::used` meets its contract: the sum so far is the room of the words so far. Assumes nothing.
use Prim.Native.Nat.{◌+◌, ◌-◌}
use borrow.Author.Rules.{rules}
use native.Mathlib.Omega.{arith}
use lib.ListN.{take, drop}
use Rattle.store.specs.Store.{room_of}
use Rattle.store.proofs.Laws.{room_more}
use Rattle.store.proofs.used.Goals as goal

pub loop-w-init : goal.loop-w-init
unfolding room_of
loop-w-init c = search rules

pub loop-w-preserved : goal.loop-w-preserved
loop-w-preserved c =
    let s = c.args in
    omega (arith, room_more (take (s.first + s.count - s.first) (drop s.first s.dir.now)) c.loop-w.w-index c.loop-w-test.true)
