-- `transmit::write_data` meets its contract: the word goes to the FIFO, and the outcomes stay. Assumes nothing.
use Rattle.transmit_rules.proofs.Sound.{fifo_holds}
use Rattle.transmit.proofs.write_data.Goals as goal

pub put_word-requires : goal.put_word-requires
put_word-requires c = let s = c.args in fifo_holds s.size s.t s.ram.now s.dir.now c.requires
