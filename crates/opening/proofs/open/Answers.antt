-- `opening::open`: its three parts are the accesses of `open_talk`, in order. Assumes nothing.
use Rattle.driver_rules.proofs.OpenWays as ways
use Rattle.opening.proofs.open.Goals as goal

pub returns : goal.returns
returns c =
    let A = c.args in ways.opens A.d A.w0 A.w1 A.w2 _ _ _ _ c.write_address-addressed.ensures c.order-masked.ensures c.order-end.ensures
