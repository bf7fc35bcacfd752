-- `cards::seamtrout_card_write_byte` meets its contract: its result is that of the public call, in numbers.
-- Assumes nothing.
use Rattle.abi.proofs.cards.seamtrout_card_write_byte.Goals as goal

pub returns : goal.returns
returns c = (c.write_byte.result, (c.coded_done.ensures, c.write_byte.ensures))
