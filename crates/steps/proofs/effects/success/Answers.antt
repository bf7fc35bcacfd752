-- `effects::success` meets its contract, by the laws `tx-does` and `tells_as`. Assumes nothing.
use Rattle.transmit_rules.specs.Tx as tx
use Rattle.card_rules.proofs.Join.{tx-does}
use Rattle.card_rules.proofs.Sides.{tx_sound_at}
use Rattle.card_rules.proofs.EffectSides.{tells_as}
use Rattle.steps.proofs.effects.success.Goals as goal

pub success-gone-requires : goal.success-gone-requires
success-gone-requires c =
    (tx_sound_at _ _ _ _ c.tx_size.ensures.0 c.requires.0, c.requires.1, c.requires.2)

pub returns : goal.returns
returns c = record {
  is = tx-does c.args.c _ _ _ _ c.requires.0.held (λ n. tx.success) _ _ c.tx_size.ensures.0 c.success-gone.ensures.step;
  tells = tells_as c.args.c _ _ _ _ _ _ c.tx_size.ensures.0 c.success-gone.ensures.tells;
}
