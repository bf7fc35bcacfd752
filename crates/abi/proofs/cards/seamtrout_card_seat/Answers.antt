-- `cards::seamtrout_card_seat` meets its contract: its result is that of the public call, in numbers.
-- Assumes nothing.
use Rattle.abi.proofs.cards.seamtrout_card_seat.Goals as goal

pub returns : goal.returns
returns c = (c.seat.result, (c.coded_done.ensures, c.seat.ensures))
