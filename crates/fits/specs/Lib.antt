-- What the promises that nothing else fits, and what is left free, cite.
pub mod Agree
pub mod Fits
pub mod Free
pub mod Order
pub mod When
pub mod Signed
pub mod NeedsExamples
