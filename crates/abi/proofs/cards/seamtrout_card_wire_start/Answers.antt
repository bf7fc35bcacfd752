-- `cards::seamtrout_card_wire_start` meets its contract: its result is that of the public call, in numbers.
-- Assumes nothing.
use Rattle.abi.proofs.cards.seamtrout_card_wire_start.Goals as goal

pub returns : goal.returns
returns c = (c.wire_start.result, (c.coded_done.ensures, c.wire_start.ensures))
