-- The law, and its figures by computing.
mod Examples
mod Refusals
mod Sizes
pub mod Suffices
