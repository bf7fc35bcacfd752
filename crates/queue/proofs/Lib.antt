-- Laws of the oldest packet.
pub mod Leave
pub mod Told
