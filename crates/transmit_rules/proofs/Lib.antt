-- Laws and worked examples.
-- the FIFO, in the order of document 01's section "Transmitting"
pub mod Parts
pub mod Facts
pub mod Put
pub mod QueueKeeps
pub mod QueueSound
pub mod Apart
pub mod Whole
mod QueueExamples
-- the status stack
pub mod StackEntries
mod StatusesExamples
-- the send outcomes
pub mod Entries
pub mod OutcomesKeeps
pub mod OutcomesExamples
-- the transmit side whole
pub mod Steps
pub mod Keeps
pub mod Sound
mod TransmitExamples
