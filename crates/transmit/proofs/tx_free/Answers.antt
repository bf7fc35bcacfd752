-- `transmit::tx_free` meets its contract: the FIFO of a sound side holds. Assumes nothing.
use Rattle.transmit_rules.proofs.Sound.{fifo_holds}
use Rattle.transmit.proofs.tx_free.Goals as goal

pub fifo_free-requires : goal.fifo_free-requires
fifo_free-requires c = let s = c.args in fifo_holds s.size s.t s.ram.now s.dir.now c.requires
