-- `opening::write_address`: window 2 and three words, one after the other. Assumes nothing.
use Rattle.driver_rules.proofs.OpenWays as ways
use Rattle.opening.proofs.write_address.Goals as goal

pub returns : goal.returns
returns c =
    ways.address c.args.w0 c.args.w1 c.args.w2 _ c.order-two.ensures c.write_pair-first.ensures c.write_pair-second.ensures c.write_pair.ensures
