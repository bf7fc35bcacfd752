-- The transmit side: the FIFO and the packet that leaves it, the status stack, the sender and what it reports, and the whole together.
-- the FIFO, in the order of document 01's section "Transmitting"
pub mod Queue
pub mod Write
pub mod Leave
pub mod QueueSound
pub mod QueueView
pub mod Whole
-- the status stack
pub mod Stack
-- the send outcomes
pub mod Reports
pub mod Outcome
pub mod OutcomesView
-- the transmit side whole
pub mod Tx
pub mod View
