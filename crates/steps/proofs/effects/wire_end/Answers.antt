-- `effects::wire_end` meets its contract, by the law `stored`. Assumes nothing.
use mathlib.Core.Path.{refl}
use Rattle.receive_rules.specs.Wire as wire
use Rattle.card_rules.proofs.Sides.{rx_sound_at}
use Rattle.card_rules.proofs.EffectSides.{stored}
use Rattle.steps.proofs.effects.wire_end.Goals as goal

pub wire_end-receive-requires : goal.wire_end-receive-requires
wire_end-receive-requires c = rx_sound_at _ _ _ _ c.rx_size.ensures.0 c.requires

pub returns : goal.returns
returns c =
    stored c.args.c _ _ _ _ c.requires.held (λ n. wire.wire_end c.args.check c.args.alignment) _ _ _ c.rx_size.ensures.0 refl c.wire_end-receive.ensures
