-- `store::drop_first` meets its contract, by the law `drops`. Assumes nothing.
use mathlib.Core.Path.{◌≡◌}
use Prim.Native.Nat.{◌-◌}
use native.Mathlib.Omega.{arith}
use Rattle.store.specs.Store.{shifted}
use Rattle.store.proofs.Lift.{drops, oldest-room}
use Rattle.store.proofs.drop_first.Goals as goal

pub overflow_sub-all : goal.overflow_sub-all
overflow_sub-all c =
    let s = c.args in
    omega (arith, oldest-room s.a s.count s.ram.now s.dir.now c.requires.0 c.requires.1)

pub shift-requires : goal.shift-requires
shift-requires c =
    let s = c.args in
    omega (arith, oldest-room s.a s.count s.ram.now s.dir.now c.requires.0 c.requires.1)

pub returns : goal.returns
returns c =
    let s = c.args in
    let gone = c.room-gone.result in
    let left = c.used-all.result - gone in
    let eb : c.shift.new.a ≡ shifted s.ram.now s.a.base gone left = c.shift.ensures in
    let ew : c.shift-2.new.a ≡ shifted s.dir.now s.a.first 1 (s.count - 1) = c.shift-2.ensures in
    rw (eb, ew)
    (drops s.a s.count gone left s.ram.now s.dir.now c.requires.0 c.requires.1 c.room-gone.ensures
    (omega (arith, oldest-room s.a s.count s.ram.now s.dir.now c.requires.0 c.requires.1, c.room-gone.ensures, c.used-all.ensures)))
