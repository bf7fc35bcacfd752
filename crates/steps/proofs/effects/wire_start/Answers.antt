-- `effects::wire_start` meets its contract, by the law `started`. Assumes nothing.
use mathlib.Core.Path.{refl}
use Rattle.card_rules.proofs.Sides.{rx_sound_at}
use Rattle.card_rules.proofs.EffectSides.{started}
use Rattle.steps.proofs.effects.wire_start.Goals as goal

pub wire_start-receive-requires : goal.wire_start-receive-requires
wire_start-receive-requires c =
    (rx_sound_at _ _ _ _ c.rx_size.ensures.0 c.requires.0, c.requires.1)

pub returns : goal.returns
returns c =
    started c.args.c _ _ _ _ c.requires.0.held _ _ _ _ _ c.passes_filter.ensures c.rx_size.ensures.0 refl c.wire_start-receive.ensures
