-- `store::append_byte` meets its contract, by the laws `asked` and `appends`. Assumes nothing.
use native.Mathlib.Omega.{arith}
use Prim.Native.Nat.{◌+◌, ◌-◌}
use Rattle.store.proofs.Lift.{appends, asked}
use Rattle.store.proofs.append_byte.Goals as goal

pub overflow_sub-last : goal.overflow_sub-last
overflow_sub-last c = omega (arith, asked c.args.a c.args.count c.args.at c.args.ram.now c.args.dir.now c.requires.sound c.requires.fact)

pub bounds-dir-last : goal.bounds-dir-last
bounds-dir-last c = omega (arith, asked c.args.a c.args.count c.args.at c.args.ram.now c.args.dir.now c.requires.sound c.requires.fact)

pub overflow_add-dir : goal.overflow_add-dir
overflow_add-dir c =
    let s = c.args in
    omega (arith, asked s.a s.count s.at s.ram.now s.dir.now c.requires.sound c.requires.fact, c.slice_known-1.given (s.a.first + s.count - 1))

pub returns : goal.returns
returns c =
    let s = c.args in
    appends s.a s.count s.at s.b s.ram.now s.dir.now c.requires.sound c.requires.fact

pub bounds-dir-last-2 : goal.bounds-dir-last-2
bounds-dir-last-2 c = omega (arith, asked c.args.a c.args.count c.args.at c.args.ram.now c.args.dir.now c.requires.sound c.requires.fact)
