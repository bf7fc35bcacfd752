-- Why what is sent is carried.
pub mod Carried
mod Examples
pub mod Quiet
pub mod Rooms
pub mod Stored
pub mod Words
pub mod Host
