-- Laws and worked examples.
-- the sequence, one card's steps, and which states are sound
pub mod Chain
pub mod Keep
pub mod IdportExamples
-- what is gathered over the cards on one port
pub mod Gathering
pub mod PortCardsExamples
-- the port, the talks, what the public calls come to
pub mod SearchExamples
