-- `one_byte::one_byte_noticed` meets its contract, which is the law of `Noticed`.
-- Assumes nothing.
use Rattle.image_check.proofs.Noticed.{noticed}
use Rattle.image_check.proofs.one_byte.one_byte_noticed.Goals as goal

pub returns : goal.returns
returns c = noticed
