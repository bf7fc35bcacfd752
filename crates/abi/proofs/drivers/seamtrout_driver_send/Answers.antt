-- `drivers::seamtrout_driver_send` meets its contract: its result is that of the public call, in numbers.
-- Assumes nothing.
use Rattle.abi.proofs.drivers.seamtrout_driver_send.Goals as goal

pub returns : goal.returns
returns c = (c.send.result, (c.coded_sent.ensures, c.send.ensures))
