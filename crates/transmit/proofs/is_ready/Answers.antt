-- `transmit::is_ready` meets its contract: a packet is stored where the count is not 0. Assumes nothing.
use Rattle.transmit_rules.proofs.Steps.{any_of}
use Rattle.transmit.proofs.is_ready.Goals as goal

pub returns : goal.returns
returns c = λ size ram dir P. rw (any_of size c.args.t.fifo.packets ram dir P)
