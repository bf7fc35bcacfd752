-- `store::used` meets its contract: the sum so far is the room of the words so far. Assumes nothing.
use mathlib.Core.Path.{◌≡◌}
use Prim.Native.Nat.{◌*◌, ◌≤◌}
use lib.ListN.{take}
use Rattle.store.specs.Store.{room_of}
use Rattle.store.proofs.used.Given as goal

abbrev pub invariant-loop-w : goal.invariant-loop-w
invariant-loop-w l = (l.sum ≡ room_of (take l.w-index l.w-items)) × (l.sum ≤ 2048 * l.w-index)
