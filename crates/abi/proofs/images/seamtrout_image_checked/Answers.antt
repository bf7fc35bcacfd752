-- `images::seamtrout_image_checked` meets its contract: its result is that of the public call, in numbers.
-- Assumes nothing.
use Rattle.abi.proofs.images.seamtrout_image_checked.Goals as goal

pub returns : goal.returns
returns c = rw (← c.check.ensures) c.coded_check.ensures
