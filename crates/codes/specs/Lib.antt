-- What the contracts of `codes`, and of the exports above it, cite.
pub mod Codes
