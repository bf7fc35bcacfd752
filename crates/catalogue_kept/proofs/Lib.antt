-- Laws and worked examples.
-- what a change writes
pub mod Told
pub mod Parts
pub mod Versions
pub mod Drops
pub mod Accepted
pub mod Files
-- what the lookups show behind it
mod Rows
mod Fields
mod Grows
mod Shrinks
mod Stays
pub mod Shown
mod Examples
