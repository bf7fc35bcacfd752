-- `cards::seamtrout_card_wire_byte` meets its contract: its result is that of the public call, in numbers.
-- Assumes nothing.
use Rattle.abi.proofs.cards.seamtrout_card_wire_byte.Goals as goal

pub returns : goal.returns
returns c = (c.wire_byte.result, (c.coded_done.ensures, c.wire_byte.ensures))
