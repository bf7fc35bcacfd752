-- What the contracts of `host` cite.
pub mod Counts
