-- Nothing else fits the catalogue's calls: the proof, call by call, and worked examples of the order.
mod Edits
mod Examples
pub mod Fits
mod Lookups
mod Places
mod Readings
mod Order
