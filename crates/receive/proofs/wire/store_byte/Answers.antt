-- `wire::store_byte` meets its contract: the three ways of `Paths`, one for each return. Assumes nothing.
use native.Mathlib.Omega.{arith}
use Rattle.receive.proofs.Paths.{newest_of, byte-dropped, byte-marks, byte-taken, byte_open}
use Rattle.receive.proofs.wire.store_byte.Goals as goal

pub returns-then-last : goal.returns-then-last
returns-then-last c =
    let s = c.args in
    let p = c.requires in
    byte-dropped s.size s.count s.b s.ram.now s.dir.now p.0 p.1 c.if-last.true

pub overflow_sub-older : goal.overflow_sub-older
overflow_sub-older c =
    let s = c.args in
    let p = c.requires in
    omega (arith, (newest_of s.size s.count s.ram.now s.dir.now p.0 p.1).sum)

pub returns-then-size-older : goal.returns-then-size-older
returns-then-size-older c =
    let s = c.args in
    let p = c.requires in
    byte-marks s.size s.count s.b s.ram.now s.dir.now p.0 p.1 _ c.used.ensures c.if-last.false _ _ p.3 (omega arith) (rw c.area-a.ensures at c.set_head.ensures)

pub append_byte-requires : goal.append_byte-requires
append_byte-requires c =
    let s = c.args in
    let p = c.requires in
    record {
      sound = rw c.area-a.ensures p.0;
      fact = rw (c.area-a.ensures, c.room.ensures) (byte_open s.size s.count s.b s.ram.now s.dir.now p.0 p.1 _ c.used.ensures c.if-last.false (omega arith));
    }

pub returns : goal.returns
returns c =
    let s = c.args in
    let p = c.requires in
    byte-taken s.size s.count s.b s.ram.now s.dir.now p.0 p.1 _ c.used.ensures c.if-last.false _ _ (omega arith) (rw c.area-a.ensures at c.append_byte.ensures)
