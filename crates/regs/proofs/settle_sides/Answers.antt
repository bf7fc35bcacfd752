-- `regs::settle_sides` meets its contract, by the law `sides_settle`. Assumes nothing.
use mathlib.Core.Path.{subst⁻¹}
use Prim.Native.Nat.{ℕ, ◌%◌}
use Rattle.transmit_rules.specs.View as tx
use Rattle.card_rules.specs.View.{view}
use Rattle.card_rules.proofs.Ranges.{tx-small}
use Rattle.card_rules.proofs.Sides.{tx-kept}
use Rattle.card_rules.proofs.Ends.{sides_settle}
use Rattle.regs.proofs.settle_sides.Goals as goal

pub settle-requires : goal.settle-requires
unfolding view
settle-requires c =
    let d = c.args.c in
    subst⁻¹ (λ (n : ℕ). tx.Unsettled n d.transmit c.args.ram.now c.args.dir.now) c.tx_size.ensures.0
    (record { small = tx-small (d.config.second % 4); packed = c.requires.0.packets; stacked = c.requires.0.statuses; calm = tx-kept (view d c.args.ram.now c.args.dir.now) c.requires.1 })

pub returns : goal.returns
returns c =
    sides_settle _ _ _ _ _ _ _ c.rx_size.ensures.0 c.tx_size.ensures.0 c.requires.0 c.requires.1 c.settle_early.ensures c.settle.ensures
