-- `cards::seamtrout_card_wire_end` meets its contract: its result is that of the public call, in numbers.
-- Assumes nothing.
use Rattle.abi.proofs.cards.seamtrout_card_wire_end.Goals as goal

pub returns : goal.returns
returns c = (c.wire_end.result, (c.coded_done.ensures, c.wire_end.ensures))
