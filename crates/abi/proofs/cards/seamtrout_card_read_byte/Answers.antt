-- `cards::seamtrout_card_read_byte` meets its contract: its result is that of the public call, in numbers.
-- Assumes nothing.
use Rattle.abi.proofs.cards.seamtrout_card_read_byte.Goals as goal

pub returns : goal.returns
returns c = (c.read_byte.result, (c.coded_read.ensures, c.read_byte.ensures))
