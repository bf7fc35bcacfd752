-- `acts::acknowledge` meets its contract, by the law `acknowledge-does`. Assumes nothing.
use mathlib.Core.Path.{refl}
use Rattle.card_rules.proofs.Effects.{acknowledge-does}
use Rattle.commands.proofs.acts.acknowledge.Goals as goal

pub returns : goal.returns
returns c =
    rw (c.has-3.ensures, c.has-2.ensures, c.has.ensures)
    (acknowledge-does c.args.c _ _ _ refl (rw c.has-4.ensures at c.acknowledge-c.ensures))
