-- `queue::fifo_free` meets its contract: the sum over the directory, with 4 for each packet and 2 for each word, is the room taken. Assumes nothing.
use mathlib.Core.Path.{sym}
use native.Mathlib.Omega.{arith}
use Rattle.transmit_rules.proofs.Facts.{facts, free_of}
use Rattle.queue.proofs.fifo_free.Goals as goal

pub overflow_mul-result-2 : goal.overflow_mul-result-2
overflow_mul-result-2 c = omega (arith, (facts c.args.size c.args.f c.args.ram.now c.args.dir.now c.requires).few)

pub overflow_add-result-2 : goal.overflow_add-result-2
overflow_add-result-2 c = omega (arith, (facts c.args.size c.args.f c.args.ram.now c.args.dir.now c.requires).few, (facts c.args.size c.args.f c.args.ram.now c.args.dir.now c.requires).space, c.used.ensures, c.requires.small)

pub overflow_sub-result : goal.overflow_sub-result
overflow_sub-result c = omega (arith, (facts c.args.size c.args.f c.args.ram.now c.args.dir.now c.requires).space, c.used.ensures)

pub returns : goal.returns
returns c =
    let s = c.args in
    rw c.used.ensures (sym (free_of s.size s.f s.ram.now s.dir.now c.requires.packed))
