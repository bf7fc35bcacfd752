-- `store::first_byte` meets its contract: the oldest frame stands at the area's start. Assumes nothing.
use mathlib.Core.Path.{◌∙◌}
use native.Mathlib.Omega.{arith}
use Rattle.store.proofs.Lift.{oldest_at, oldest-room}
use Rattle.store.proofs.first_byte.Goals as goal

pub byte_at-requires : goal.byte_at-requires
byte_at-requires c = omega (arith, oldest-room _ _ _ _ c.requires.0 c.requires.1)

pub returns : goal.returns
returns c =
    c.byte_at.ensures ∙ oldest_at c.args.a c.args.count c.args.i c.args.ram.now c.args.dir.now c.requires.0 c.requires.1 c.requires.2
