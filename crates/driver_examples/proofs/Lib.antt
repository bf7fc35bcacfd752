-- The worked examples, computed.
pub mod Cost
pub mod Long
pub mod Send
pub mod Service
