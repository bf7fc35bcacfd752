-- `leaving::oldest_wanted` meets its contract: the oldest packet's word is the directory's first. Assumes nothing.
use mathlib.Core.Path.{◌∙◌}
use Rattle.queue.proofs.Told.{wants}
use Rattle.queue.proofs.leaving.oldest_wanted.Goals as goal

pub returns : goal.returns
returns c =
    let s = c.args in
    c.has.ensures ∙ wants s.size s.f.packets s.ram.now s.dir.now c.requires.0.packed c.requires.1
