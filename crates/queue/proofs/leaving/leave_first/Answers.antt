-- `leaving::leave_first` meets its contract: what is behind the oldest, bytes and words, is shifted down. Assumes nothing.
use mathlib.Core.Path.{◌≡◌}
use Prim.Native.Nat.{◌-◌, ◌+◌, ◌*◌}
use native.Mathlib.Omega.{arith}
use Rattle.store.specs.Store.{shifted}
use Rattle.transmit_rules.proofs.Facts.{facts}
use Rattle.queue.proofs.Leave.{leaves, oldest-room}
use Rattle.queue.proofs.leaving.leave_first.Goals as goal

pub overflow_mul-data : goal.overflow_mul-data
overflow_mul-data c = omega (arith, (facts c.args.size c.args.f c.args.ram.now c.args.dir.now c.requires.0).few)

pub overflow_sub-all : goal.overflow_sub-all
overflow_sub-all c =
    let s = c.args in
    omega (arith, oldest-room s.size s.f.packets s.ram.now s.dir.now c.requires.0.packed c.requires.1, c.room-gone.ensures, c.used-all.ensures)

pub overflow_add-all : goal.overflow_add-all
overflow_add-all c =
    omega (arith, (facts c.args.size c.args.f c.args.ram.now c.args.dir.now c.requires.0).space, (facts c.args.size c.args.f c.args.ram.now c.args.dir.now c.requires.0).few, c.room-gone.ensures, c.used-all.ensures, c.requires.0.small)

pub shift-requires : goal.shift-requires
shift-requires c =
    let s = c.args in
    omega (arith, (facts c.args.size c.args.f c.args.ram.now c.args.dir.now c.requires.0).space, oldest-room s.size s.f.packets s.ram.now s.dir.now c.requires.0.packed c.requires.1, c.room-gone.ensures, c.used-all.ensures, c.requires.0.packed.in_ram)

pub shift-requires-2 : goal.shift-requires-2
shift-requires-2 c =
    omega (arith, (facts c.args.size c.args.f c.args.ram.now c.args.dir.now c.requires.0).place, c.requires.0.packed.in_dir)

pub returns : goal.returns
returns c =
    let s = c.args in
    let gone = c.room-gone.result in
    let left = c.used-all.result - gone + 2 * c.saturating_sub-data.result in
    let eb : c.shift.new.a ≡ shifted s.ram.now (8192 - s.size) gone left = c.shift.ensures in
    let ew : c.shift-2.new.a ≡ shifted s.dir.now 768 1 s.f.packets = c.shift-2.ensures in
    rw (eb, ew)
    (leaves s.size gone left s.f s.ram.now s.dir.now c.requires.0 c.requires.1 c.room-gone.ensures
    (omega (arith, oldest-room s.size s.f.packets s.ram.now s.dir.now c.requires.0.packed c.requires.1, c.room-gone.ensures, c.used-all.ensures, c.saturating_sub-data.ensures)))
