-- Why nothing else fits.
pub mod All
pub mod Card
pub mod Driver
pub mod Free
pub mod Service
pub mod Order
pub mod Rows
pub mod Needs
pub mod Endless
pub mod When
pub mod Signed
pub mod NeedsExamples
