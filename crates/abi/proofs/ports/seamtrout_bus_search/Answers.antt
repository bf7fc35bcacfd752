-- `ports::seamtrout_bus_search` meets its contract: its result is that of the public call, in numbers.
-- Assumes nothing.
use Rattle.abi.proofs.ports.seamtrout_bus_search.Goals as goal

pub returns : goal.returns
returns c = (c.find_cards.result, (c.coded_found.ensures, c.find_cards.ensures))
