-- Why it is so, and two computed facts beside it.
pub mod Over
pub mod Unread
pub mod Cut
pub mod Reached
pub mod Few
pub mod Kept
pub mod Refused
pub mod Sends
pub mod Host
pub mod Frames
