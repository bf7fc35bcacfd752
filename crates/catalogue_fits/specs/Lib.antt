-- Nothing else fits the catalogue's calls.
pub mod Fits
pub mod Tests
