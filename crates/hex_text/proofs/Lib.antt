-- The law, what leads to it, and examples.
pub mod Back
pub mod Examples
