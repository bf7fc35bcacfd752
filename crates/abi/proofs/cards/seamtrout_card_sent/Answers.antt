-- `cards::seamtrout_card_sent` meets its contract: its result is that of the public call, in numbers.
-- Assumes nothing.
use Rattle.abi.proofs.cards.seamtrout_card_sent.Goals as goal

pub returns : goal.returns
returns c = (c.success.result, (c.coded_told.ensures, (c.success.ensures.success, c.success.ensures.success_area)))
