-- `drivers::seamtrout_driver_open` meets its contract: its result is that of the public call, in numbers.
-- Assumes nothing.
use Rattle.abi.proofs.drivers.seamtrout_driver_open.Goals as goal

pub returns : goal.returns
returns c = (c.open.result, (c.coded_opened.ensures, c.open.ensures))
