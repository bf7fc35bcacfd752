-- `window_write::write_data` meets its contract, by the law `tx-does`. Assumes nothing.
use Prim.Native.Nat.{ℕ}
use Rattle.transmit_rules.specs.Tx.{write_data}
use Rattle.card_rules.specs.View.{view}
use Rattle.card_rules.proofs.Join.{tx-does}
use Rattle.card_rules.proofs.Sides.{tx_sound_at}
use Rattle.window_write.proofs.write_data.Goals as goal

pub write_data-requires : goal.write_data-requires
write_data-requires c = tx_sound_at _ _ _ _ c.tx_size.ensures.0 c.requires

pub returns : goal.returns
unfolding view
returns c =
    tx-does _ _ _ _ _ c.requires.held (λ (n : ℕ). write_data n c.args.v) _ _ c.tx_size.ensures.0 c.write_data.ensures
