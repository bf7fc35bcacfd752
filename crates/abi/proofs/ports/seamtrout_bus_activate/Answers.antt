-- `ports::seamtrout_bus_activate` meets its contract: its result is that of the public call, in numbers.
-- Assumes nothing.
use Rattle.abi.proofs.ports.seamtrout_bus_activate.Goals as goal

pub returns : goal.returns
returns c = (c.activate_card.result, (c.coded_activated.ensures, c.activate_card.ensures))
