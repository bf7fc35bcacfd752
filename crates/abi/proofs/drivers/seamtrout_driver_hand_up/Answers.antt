-- `drivers::seamtrout_driver_hand_up` meets its contract: it tells area and length of the public call's part.
-- Assumes nothing.
use Rattle.abi.proofs.Part.{lies}
use Rattle.abi.proofs.drivers.seamtrout_driver_hand_up.Goals as goal

pub returns : goal.returns
returns c = lies _ _ c.hand_up-part.result _ c.hand_up-part.ensures _ c.coded_part.ensures
