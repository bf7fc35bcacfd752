-- The ID port: the ID sequence, one card's ID state and its steps, the bit that the cards on one port leave, the search and the activation.
-- the sequence, one card's steps, and which states are sound
pub mod Sequence
pub mod Card
pub mod Sound
-- what is gathered over the cards on one port
pub mod Gathered
-- the port, the talks, what the public calls come to
pub mod Port
pub mod Search
pub mod Calls
pub mod Lent
pub mod PortContracts
pub mod Leads
