-- `forms::part` meets its contract: a list that is short enough is its own front. Assumes nothing.
use Rattle.std.proofs.Common.{arith, length-take, refl, length}
use Rattle.std.proofs.Math.Nat.{min_comm}
use Rattle.std.proofs.lemmas.List.{take_min}
use Rattle.answers.proofs.forms.part.Goals as goal

pub returns : goal.returns
returns c =
    rw (c.min.ensures, min_comm (length c.args.bytes.now) 1792, take_min 1792 c.args.bytes.now) (refl, simp length-take (omega arith))
