-- Bits and bytes of numbers; laws of tests, of lists and of a lent struct that several crates cite.
-- bits and bytes
pub mod Bits
-- laws that several crates cite
pub mod UpTo
