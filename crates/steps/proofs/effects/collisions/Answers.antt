-- `effects::collisions` meets its contract, by the law `tx-does`. Assumes nothing.
use Rattle.transmit_rules.specs.Tx as tx
use Rattle.card_rules.proofs.Join.{tx-does}
use Rattle.card_rules.proofs.Sides.{tx_sound_at}
use Rattle.steps.proofs.effects.collisions.Goals as goal

pub collisions-transmit-requires : goal.collisions-transmit-requires
collisions-transmit-requires c = (tx_sound_at _ _ _ _ c.tx_size.ensures.0 c.requires.0, c.requires.1)

pub returns : goal.returns
returns c =
    tx-does c.args.c _ _ _ _ c.requires.0.held (λ n. tx.collisions) _ _ c.tx_size.ensures.0 c.collisions-transmit.ensures
