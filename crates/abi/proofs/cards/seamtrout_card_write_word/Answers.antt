-- `cards::seamtrout_card_write_word` meets its contract: its result is that of the public call, in numbers.
-- Assumes nothing.
use Rattle.abi.proofs.cards.seamtrout_card_write_word.Goals as goal

pub returns : goal.returns
returns c = (c.write_word.result, (c.coded_done.ensures, c.write_word.ensures))
