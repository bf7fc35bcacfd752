-- What the contracts of the exported functions cite.
pub mod Cards
pub mod Drivers
pub mod Ids
pub mod Ports
pub mod Sizes
