--
pub mod Alikes
pub mod Aside
pub mod Calls
pub mod CardByCard
pub mod Loops
pub mod Ones
pub mod Slices
