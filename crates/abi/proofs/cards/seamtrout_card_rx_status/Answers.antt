-- `cards::seamtrout_card_rx_status` meets its contract: its result is that of the public call, in numbers.
-- Assumes nothing.
use Rattle.abi.proofs.cards.seamtrout_card_rx_status.Goals as goal

pub returns : goal.returns
returns c = (c.rx_status.result, (c.coded_rx_status.ensures, c.rx_status.ensures))
