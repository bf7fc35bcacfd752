-- `cards::seamtrout_card_interrupt_line` meets its contract: its result is that of the public call, in numbers.
-- Assumes nothing.
use Rattle.abi.proofs.cards.seamtrout_card_interrupt_line.Goals as goal

pub returns : goal.returns
returns c = (c.interrupt_line.result, (c.coded_line.ensures, c.interrupt_line.ensures))
