-- `drivers::seamtrout_driver_service` meets its contract: its result is that of the public call, in numbers.
-- Assumes nothing.
use Rattle.abi.proofs.drivers.seamtrout_driver_service.Goals as goal

pub returns : goal.returns
returns c = (c.service.result, (c.coded_served.ensures, c.service.ensures))
