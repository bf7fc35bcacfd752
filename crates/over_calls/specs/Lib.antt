-- What is promised of the public calls.
pub mod Over
pub mod Kept
pub mod Refused
pub mod Sends
pub mod Host
pub mod Frames
