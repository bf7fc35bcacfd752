-- The receive side, as functions.
pub mod Paths
pub mod Word
