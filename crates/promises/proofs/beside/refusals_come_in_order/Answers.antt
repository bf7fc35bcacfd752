-- Cites the theorem. Assumes nothing.
use Rattle.fits.proofs.Order.{refusals_come_in_order_lem}
use Rattle.promises.proofs.beside.refusals_come_in_order.Goals as goal

pub returns : goal.returns
returns c = refusals_come_in_order_lem
