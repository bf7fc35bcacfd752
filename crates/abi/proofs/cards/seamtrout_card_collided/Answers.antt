-- `cards::seamtrout_card_collided` meets its contract: its result is that of the public call, in numbers.
-- Assumes nothing.
use Rattle.abi.proofs.cards.seamtrout_card_collided.Goals as goal

pub returns : goal.returns
returns c = (c.collisions.result, (c.coded_done.ensures, c.collisions.ensures))
