-- Laws that this crate's proofs cite.
mod Each
mod Fitting
mod Outward
mod Putting
mod Returned
mod Ways
