-- `effects::execute` meets its contract, by the law `executes`. Assumes nothing.
use Rattle.card_rules.proofs.Written.{held-sound, executes}
use Rattle.steps.proofs.effects.execute.Goals as goal

pub commanded-requires : goal.commanded-requires
commanded-requires c = held-sound _ _ _ _ 0 c.hold.ensures c.requires

pub returns : goal.returns
returns c =
    executes c.args.c _ _ _ _ _ _ _ _ c.hold.ensures c.pair-word.ensures c.commanded.ensures
