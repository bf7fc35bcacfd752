-- `words::put_data` meets its contract: the packet becomes whole, or has one word more. Assumes nothing.
use native.Mathlib.Omega.{arith}
use lib.ListN.{length-set}
use Rattle.transmit_rules.proofs.Facts.{facts}
use Rattle.transmit_rules.proofs.Put.{room-left, data_whole, data_more}
use Rattle.queue.proofs.words.put_data.Goals as goal

pub bounds-ram-at : goal.bounds-ram-at
bounds-ram-at c =
    let s = c.args in
    let R = room-left s.size s.v s.at s.f s.ram.now s.dir.now c.requires.holds.0 c.requires.holds.1 c.requires.holds.2 c.requires.at_value in
    omega (arith, R.high, R.in_ram)

pub overflow_add-ram : goal.overflow_add-ram
overflow_add-ram c =
    let s = c.args in
    let R = room-left s.size s.v s.at s.f s.ram.now s.dir.now c.requires.holds.0 c.requires.holds.1 c.requires.holds.2 c.requires.at_value in
    omega (arith, R.high, c.requires.holds.0.small)

pub bounds-ram-at-2 : goal.bounds-ram-at-2
bounds-ram-at-2 c =
    let s = c.args in
    let R = room-left s.size s.v s.at s.f s.ram.now s.dir.now c.requires.holds.0 c.requires.holds.1 c.requires.holds.2 c.requires.at_value in
    simp length-set (omega (arith, R.high, R.in_ram))

pub bounds-dir-f : goal.bounds-dir-f
bounds-dir-f c =
    let s = c.args in
    omega (arith, (facts s.size s.f s.ram.now s.dir.now c.requires.holds.0).place, c.requires.holds.0.packed.in_dir)

pub returns-then-f-room : goal.returns-then-f-room
returns-then-f-room c =
    let s = c.args in
    data_whole s.size s.v s.at s.f s.ram.now s.dir.now c.requires.holds.0 c.requires.holds.1 c.requires.holds.2 c.requires.at_value (omega (arith, c.if-f-room.true, c.room-room.ensures))

pub returns : goal.returns
returns c =
    let s = c.args in
    data_more s.size s.v s.at s.f s.ram.now s.dir.now c.requires.holds.0 c.requires.holds.1 c.requires.holds.2 c.requires.at_value (λ q. c.if-f-room.false (omega (arith, q, c.room-room.ensures)))
