-- Laws of the places and of the counts.
pub mod Behind
mod Counted
mod Passed
