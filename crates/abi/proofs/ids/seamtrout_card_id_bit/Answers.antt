-- `ids::seamtrout_card_id_bit` meets its contract: each way of its tests is one of the definition.
-- Assumes nothing.
use mathlib.Core.Path.{sym, ◌∙◌}
use Rattle.card_rules.proofs.Judged.{passed}
use Rattle.abi.proofs.Port.{bit_refused, bit_told}
use Rattle.abi.proofs.ids.seamtrout_card_id_bit.Goals as goal

pub returns-in-Err : goal.returns-in-Err
returns-in-Err c = bit_refused _ _ _ _ _ _ c.number.ensures (sym c.in-Err.is ∙ c.tested.ensures)

pub returns : goal.returns
returns c =
    let p = passed _ _ _ _ (sym c.in_default.is ∙ c.tested.ensures) in
    bit_told _ _ _ _ _ p.0 p.1 c.bit.ensures
