-- Laws and worked examples.
-- in the order of document 01's section "Receiving"
pub mod Laws
pub mod Facts
pub mod Oldest
pub mod Order
pub mod Count
pub mod Keeps
pub mod Settled
pub mod Steps
pub mod Taking
pub mod Whole
pub mod Examples
