-- `regs::power_on` meets its contract, by the law `started-blank`. Assumes nothing.
use Rattle.transmit_rules.proofs.Facts.{empty_fifo}
use Rattle.card_rules.proofs.Blank.{started-blank}
use Rattle.card_rules.specs.Power.{power_on}
use Rattle.regs.proofs.power_on.Goals as goal

pub returns : goal.returns
unfolding power_on
returns c =
    let s = c.args in
    rw (empty_fifo c.default.result c.default.ensures, c.quiet.ensures, c.loaded.ensures)
    (started-blank s.words s.wire c.fresh.result c.fresh-2.result c.fresh.ensures c.fresh-2.ensures)
