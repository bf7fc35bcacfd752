-- `sending::write_packet`: the preamble and the data, one after the other. Assumes nothing.
use Rattle.driver_rules.proofs.SendWays as ways
use Rattle.sending.proofs.write_packet.Goals as goal

pub returns : goal.returns
returns c =
    ways.written _ _ _ c.round_up.ensures.0 c.write_word-first.ensures c.write_word-second.ensures c.write_data.ensures
