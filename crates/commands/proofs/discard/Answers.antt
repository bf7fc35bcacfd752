-- `commands::discard` meets its contract, by the law `rx-does`. Assumes nothing.
use Rattle.receive_rules.specs.Reading as reading
use Rattle.card_rules.proofs.Join.{rx-does}
use Rattle.card_rules.proofs.Sides.{rx_sound_at}
use Rattle.commands.proofs.discard.Goals as goal

pub discard-requires : goal.discard-requires
discard-requires c = rx_sound_at _ _ _ _ c.rx_size.ensures.0 c.requires

pub returns : goal.returns
returns c =
    rx-does _ _ _ _ _ c.requires.held (λ n. reading.discard) _ _ c.rx_size.ensures.0 c.discard.ensures
