-- `sending::send`: a refusal of the tests is the send's, and passed, the packet's words are what is left of it. Assumes nothing.
use Rattle.driver_rules.proofs.SendWays as ways
use Rattle.sending.proofs.send.Goals as goal

pub write_packet-end-requires : goal.write_packet-end-requires
write_packet-end-requires c = let p = ways.few _ _ _ _ _ _ c.in-Ok.ensures in (p.sound, p.short)

pub ticketed-requires : goal.ticketed-requires
ticketed-requires c = (ways.few _ _ _ _ _ _ c.in-Ok.ensures).few

pub returns-in-Ok : goal.returns-in-Ok
returns-in-Ok c = rw c.ticketed.ensures (ways.taken _ _ _ _ _ _ c.in-Ok.ensures _ _ _ c.write_packet-end.ensures)

pub returns-in-Err : goal.returns-in-Err
returns-in-Err c = rw c.refused.ensures (ways.refused _ _ _ _ _ _ c.in-Err.ensures)
