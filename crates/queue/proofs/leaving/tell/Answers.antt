-- `leaving::tell` meets its contract: the oldest packet's bytes lie at the area's base, and its word is the directory's first. Assumes nothing.
use native.Mathlib.Omega.{arith}
use lib.ListN.{get_or}
use Rattle.queue.proofs.Told.{first_short, told_bound, tells}
use Rattle.queue.proofs.leaving.tell.Goals as goal

pub tell_bytes-requires : goal.tell_bytes-requires
tell_bytes-requires c =
    let s = c.args in
    let S = first_short s.size s.f s.ram.now s.dir.now c.requires.0 c.requires.1 in
    let B = told_bound (get_or s.dir.now 768 0) c.told_length-n.result c.told_length-n.ensures.0 S.0 in
    (S.1, B.0, omega (arith, B.1, c.requires.2))

pub returns : goal.returns
returns c =
    let s = c.args in
    tells s.size c.told_length-n.result s.f s.ram.now s.dir.now s.out.now _ c.requires.0 c.requires.1 c.told_length-n.ensures.0 c.tell_bytes.ensures
